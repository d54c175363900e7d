-- How far a session comes up to an exit.
use Rattle.std.proofs.Common.{◌≡◌, ◌⊎◌, inl, inr, ⊎_elim, ℕ, suc, ap, sym, ◌∙◌, List, [], ◌∷◌, ◌++◌, refl, length, subst, Bool, true, false, Some, None}
use Rattle.std.specs.Prelude.{if◌then◌else◌, All, codes, slice_get, Ok}
use Rattle.std.proofs.lemmas.List.Elements.{All-head, All-tail}
use Rattle.serde_json.specs.Data.{Data}
use Rattle.json_rpc.specs.declared.message.Id.{Id}
use Rattle.json_rpc.specs.Messages.{request, message_of}
use Rattle.lsp_forms.specs.declared.forms.Initialize.{Initialize}
use Rattle.lsp_forms.specs.Forms.{initialize_of}
use Rattle.answers.specs.declared.types.Phase.{Phase}
use Rattle.answers.specs.declared.types.Phase.TheVariants.{Fresh, Running, Stopped}
use Rattle.answers.specs.Asks.{Short, Enough, Lacking, Ending, Met, Loaded, classes, missing, too_long, no_class_file, no_text, unreadable}
use Rattle.answers.specs.Sessions.{Seen}
use Rattle.answers.specs.Messages.{Meaning, asks, publishes, says, lacks, starts, stops, edits, leaves, drops, initialize_by, fresh_request, request_by, meaning_in, meaning_of, published, by_memory, is_stopped, Outcome, no_memory, exited}
use Rattle.answers.specs.Runs.{Message, ends, outcome, session_after, replies_to}
use Rattle.sessions.specs.Served.{GoesOn, bodies_in}
use Rattle.endings.specs.Decided.{IsExit, IsNoExit, IsNoShutdown}
use Rattle.endings.proofs.Readings.{Agree}
use Rattle.endings.proofs.Exits.{IsTrue, not_empty, left, exit_if, exit_ends, stop_is_told}
use Rattle.endings.proofs.Stops.{keeps, means_stop, stopped_stays}

abbrev IsBegun : Phase → Type 0
IsBegun Fresh = ⊥
IsBegun Running = Unit {0}
IsBegun Stopped = Unit {0}

abbrev IsUp : Phase → Type 0
IsUp Fresh = Unit {0}
IsUp Running = Unit {0}
IsUp Stopped = ⊥

-- No message takes a session back to its start.
begun_published : (o : Loaded) (s : Seen) (id : Id) (removes : List (List ℕ)) (counts : List (List ℕ × ℕ)) (m : Met) → IsBegun s.phase → IsBegun (published s id removes counts m o).0.phase
begun_published (classes puts) s id removes counts m b = b
begun_published (missing index) s id removes counts m b = b
begun_published (too_long index) s id removes counts m b = b
begun_published (no_class_file index class_fault place) s id removes counts m b = b
begun_published (no_text index) s id removes counts m b = b
begun_published (unreadable index) s id removes counts m b = b

begun_stays : (x : Short) (s : Seen) (meaning : Meaning) (m : Met) → IsBegun s.phase → IsBegun (by_memory x s meaning m).0.phase
begun_stays Enough s (asks id ask) m b = b
begun_stays Enough s (publishes id files removes counts) m b = begun_published m.loads s id removes counts m b
begun_stays Enough s (says id reply) m b = b
begun_stays Enough s (lacks id) m b = b
begun_stays Enough s (starts id options) m b = tt
begun_stays Enough s (stops id) m b = tt
begun_stays Enough s (edits uri edit) m b = b
begun_stays Enough s leaves m b = b
begun_stays Enough s drops m b = b
begun_stays Lacking s (asks id ask) m b = b
begun_stays Lacking s (publishes id files removes counts) m b = b
begun_stays Lacking s (says None reply) m b = b
begun_stays Lacking s (says (Some id) reply) m b = b
begun_stays Lacking s (lacks id) m b = b
begun_stays Lacking s (starts id options) m b = b
begun_stays Lacking s (stops id) m b = b
begun_stays Lacking s (edits uri edit) m b = b
begun_stays Lacking s leaves m b = b
begun_stays Lacking s drops m b = b
begun_stays Ending s meaning m b = b

begun_after : (s : Seen) (m : Message) → IsBegun s.phase → IsBegun (session_after s m).phase
begun_after s m b = begun_stays m.met.short s (meaning_of s m.body) m.met b

-- Nothing but a `shutdown` stops a session.
up_published : (o : Loaded) (s : Seen) (id : Id) (removes : List (List ℕ)) (counts : List (List ℕ × ℕ)) (m : Met) → IsUp s.phase → IsUp (published s id removes counts m o).0.phase
up_published (classes puts) s id removes counts m u = u
up_published (missing index) s id removes counts m u = u
up_published (too_long index) s id removes counts m u = u
up_published (no_class_file index class_fault place) s id removes counts m u = u
up_published (no_text index) s id removes counts m u = u
up_published (unreadable index) s id removes counts m u = u

up_stays : (x : Short) (s : Seen) (meaning : Meaning) (m : Met) → IsUp s.phase → ((id : Id) → meaning ≡ stops id → ⊥) → IsUp (by_memory x s meaning m).0.phase
up_stays Enough s (asks id ask) m u none = u
up_stays Enough s (publishes id files removes counts) m u none = up_published m.loads s id removes counts m u
up_stays Enough s (says id reply) m u none = u
up_stays Enough s (lacks id) m u none = u
up_stays Enough s (starts id options) m u none = tt
up_stays Enough s (stops id) m u none = none id refl
up_stays Enough s (edits uri edit) m u none = u
up_stays Enough s leaves m u none = u
up_stays Enough s drops m u none = u
up_stays Lacking s (asks id ask) m u none = u
up_stays Lacking s (publishes id files removes counts) m u none = u
up_stays Lacking s (says None reply) m u none = u
up_stays Lacking s (says (Some id) reply) m u none = u
up_stays Lacking s (lacks id) m u none = u
up_stays Lacking s (starts id options) m u none = u
up_stays Lacking s (stops id) m u none = u
up_stays Lacking s (edits uri edit) m u none = u
up_stays Lacking s leaves m u none = u
up_stays Lacking s drops m u none = u
up_stays Ending s meaning m u none = u

-- What is left of a session by an exit: it is as before.
left_up : (x : Short) (s : Seen) (meaning : Meaning) (m : Met) → IsUp s.phase → meaning ≡ leaves → IsUp (by_memory x s meaning m).0.phase
left_up Enough s meaning m u e = subst (λ (k : Meaning). IsUp (by_memory Enough s k m).0.phase) (sym e) u
left_up Lacking s meaning m u e = subst (λ (k : Meaning). IsUp (by_memory Lacking s k m).0.phase) (sym e) u
left_up Ending s meaning m u e = u

not_stopped : (p : Phase) → IsUp p → is_stopped p ≡ false
not_stopped Fresh u = refl
not_stopped Running u = refl
not_stopped Stopped u = absurd u

pub is_up : (p : Phase) → (p ≡ Stopped → ⊥) → IsUp p
is_up Fresh none = tt
is_up Running none = tt
is_up Stopped none = none refl

-- An exit that is read in a session that is up, with no `shutdown` before it, finds it up.
pub exit_alone : (s : Seen) (messages : List Message) (bodies : List (List ℕ)) (body : List ℕ) (before : List Outcome) (b : Bool) → replies_to s messages ≡ before ++ exited b ∷ []
    → Agree (bodies_in messages) (bodies ++ body ∷ []) → All IsNoShutdown bodies → IsExit body → IsUp s.phase → b ≡ false
unfolding replies_to
exit_alone s [] bodies body before b is agree none exit up = absurd (not_empty before [] (exited b) is)
exit_alone s (m ∷ ms) [] body before b is agree none exit up =
    let here : IsExit m.body = subst IsExit (sym agree.0) exit in
    ⊎_elim (λ e. (left s m b e).stopped ∙ not_stopped (session_after s m).phase (left_up m.met.short s (meaning_of s m.body) m.met up (here s)))
    (λ more. absurd (exit_ends s m here more.1))
    (exit_if (ends (outcome s m)) (outcome s m) (replies_to (session_after s m) ms) before b is)
exit_alone s (m ∷ ms) (k ∷ ks) body before b is agree none exit up =
    let here : IsNoShutdown m.body = subst IsNoShutdown (sym agree.0) (All-head IsNoShutdown k ks none) in
    let later : IsUp (session_after s m).phase = up_stays m.met.short s (meaning_of s m.body) m.met up (here s) in
    ⊎_elim (λ e. (left s m b e).stopped ∙ not_stopped (session_after s m).phase later)
    (λ more. exit_alone (session_after s m) ms ks body more.0 b more.2 agree.1 (All-tail IsNoShutdown k ks none) exit later)
    (exit_if (ends (outcome s m)) (outcome s m) (replies_to (session_after s m) ms) before b is)

-- An exit of a stopped session tells so.
stopped_exit : (s : Seen) (messages : List Message) (before : List Outcome) (b : Bool) → replies_to s messages ≡ before ++ exited b ∷ [] → s.phase ≡ Stopped → b ≡ true
stopped_exit s messages before b is e = stop_is_told s messages before b is ∙ ap is_stopped (stopped_stays s messages e)

ahead : (p : Phase) → (p ≡ Fresh) ⊎ IsBegun p
ahead Fresh = inl refl
ahead Running = inr tt
ahead Stopped = inr tt

within : (p : Phase) → IsBegun p → (p ≡ Running) ⊎ (p ≡ Stopped)
within Fresh b = absurd b
within Running b = inl refl
within Stopped b = inr refl

-- An `initialize` begins a session or is answered "no memory".
start_row : (id : Id) (params : Data) → fresh_request id (codes "initialize") params ≡ initialize_by id (initialize_of params)
unfolding fresh_request
start_row id params = refl

means_start : (s : Seen) (body : List ℕ) (id : Id) (params : Data) (options : Initialize) → s.phase ≡ Fresh → message_of body ≡ Some (request id (codes "initialize") params) → initialize_of params ≡ Ok options
    → meaning_of s body ≡ starts id options
means_start s body id params options p e ok =
    ap (meaning_in s) e ∙ ap (λ (x : Phase). request_by x s id (codes "initialize") params) p ∙ start_row id params ∙ ap (initialize_by id) ok

opened_by : (x : Short) (s : Seen) (id : Id) (options : Initialize) (m : Met) → GoesOn (by_memory x s (starts id options) m).1
    → IsBegun (by_memory x s (starts id options) m).0.phase ⊎ ((by_memory x s (starts id options) m).1 ≡ no_memory id)
opened_by Enough s id options m on = inl tt
opened_by Lacking s id options m on = inr refl
opened_by Ending s id options m on = absurd (subst IsTrue on tt)

opened : (s : Seen) (m : Message) (id : Id) (params : Data) (options : Initialize) → message_of m.body ≡ Some (request id (codes "initialize") params) → initialize_of params ≡ Ok options → GoesOn (outcome s m)
    → IsBegun (session_after s m).phase ⊎ (outcome s m ≡ no_memory id)
opened s m id params options e ok on =
    let P : Meaning → Type 0 = λ k. GoesOn (by_memory m.met.short s k m.met).1 → IsBegun (by_memory m.met.short s k m.met).0.phase ⊎ ((by_memory m.met.short s k m.met).1 ≡ no_memory id) in
    ⊎_elim (λ fresh. subst P (sym (means_start s m.body id params options fresh e ok)) (opened_by m.met.short s id options m.met) on) (λ b. inl (begun_after s m b)) (ahead s.phase)

-- A `shutdown` stops a session that has begun or is answered "no memory".
closed_by : (x : Short) (s : Seen) (id : Id) (m : Met) → GoesOn (by_memory x s (stops id) m).1
    → ((by_memory x s (stops id) m).0.phase ≡ Stopped) ⊎ ((by_memory x s (stops id) m).1 ≡ no_memory id)
closed_by Enough s id m on = inl refl
closed_by Lacking s id m on = inr refl
closed_by Ending s id m on = absurd (subst IsTrue on tt)

closed : (s : Seen) (m : Message) (id : Id) (params : Data) → message_of m.body ≡ Some (request id (codes "shutdown") params) → IsBegun s.phase → GoesOn (outcome s m)
    → ((session_after s m).phase ≡ Stopped) ⊎ (outcome s m ≡ no_memory id)
closed s m id params e begun on =
    let P : Meaning → Type 0 = λ k. GoesOn (by_memory m.met.short s k m.met).1 → ((by_memory m.met.short s k m.met).0.phase ≡ Stopped) ⊎ ((by_memory m.met.short s k m.met).1 ≡ no_memory id) in
    ⊎_elim (λ running. subst P (sym (means_stop s m.body id params running e)) (closed_by m.met.short s id m.met) on)
    (λ stopped. inl (ap (λ (x : Seen). x.phase) (keeps s m stopped) ∙ stopped))
    (within s.phase begun)

-- Where the session goes on, a later outcome is one of the outcomes of the rest.
later_at : (e : Bool) (o wanted : Outcome) (rest : List Outcome) (n : ℕ) → e ≡ false → slice_get rest n ≡ Some wanted → slice_get (o ∷ (if e then [] else rest)) (suc n) ≡ Some wanted
later_at true o wanted rest n f at = absurd (subst IsTrue f tt)
later_at false o wanted rest n f at = at

module _ (hello stop : Id) (opening closing : List ℕ) (params last_params : Data) (options : Initialize)
    (opens : message_of opening ≡ Some (request hello (codes "initialize") params)) (well_formed : initialize_of params ≡ Ok options)
    (closes : message_of closing ≡ Some (request stop (codes "shutdown") last_params)) where
  -- From a session that has begun on.
  stops_or_lacks : (s : Seen) (messages : List Message) (between after : List (List ℕ)) (body : List ℕ) (before : List Outcome) (b : Bool) → replies_to s messages ≡ before ++ exited b ∷ []
      → Agree (bodies_in messages) ((between ++ closing ∷ after) ++ body ∷ []) → All IsNoExit (between ++ closing ∷ after) → IsBegun s.phase
      → (b ≡ true) ⊎ (slice_get (replies_to s messages) (length between) ≡ Some (no_memory stop))
  unfolding replies_to
  stops_or_lacks s [] between after body before b is agree clear begun = absurd (not_empty before [] (exited b) is)
  stops_or_lacks s (m ∷ ms) [] after body before b is agree clear begun =
      let here : IsNoExit m.body = subst IsNoExit (sym agree.0) (All-head IsNoExit closing after clear) in
      let told : message_of m.body ≡ Some (request stop (codes "shutdown") last_params) = ap message_of agree.0 ∙ closes in
      ⊎_elim (λ e. absurd (here s (left s m b e).meant))
      (λ more. ⊎_elim (λ e. inl (stopped_exit (session_after s m) ms more.0 b more.2 e)) (λ e. inr (ap (λ (o : Outcome). Some o) e)) (closed s m stop last_params told begun more.1))
      (exit_if (ends (outcome s m)) (outcome s m) (replies_to (session_after s m) ms) before b is)
  stops_or_lacks s (m ∷ ms) (k ∷ ks) after body before b is agree clear begun =
      let here : IsNoExit m.body = subst IsNoExit (sym agree.0) (All-head IsNoExit k (ks ++ closing ∷ after) clear) in
      ⊎_elim (λ e. absurd (here s (left s m b e).meant))
      (λ more. ⊎_elim inl (λ at. inr (later_at (ends (outcome s m)) (outcome s m) (no_memory stop) (replies_to (session_after s m) ms) (length ks) more.1 at))
      (stops_or_lacks (session_after s m) ms ks after body more.0 b more.2 agree.1 (All-tail IsNoExit k (ks ++ closing ∷ after) clear) (begun_after s m begun)))
      (exit_if (ends (outcome s m)) (outcome s m) (replies_to (session_after s m) ms) before b is)

  -- From any session on.
  pub begins_and_stops : (s : Seen) (messages : List Message) (firsts between after : List (List ℕ)) (body : List ℕ) (before : List Outcome) (b : Bool) → replies_to s messages ≡ before ++ exited b ∷ []
      → Agree (bodies_in messages) ((firsts ++ opening ∷ (between ++ closing ∷ after)) ++ body ∷ []) → All IsNoExit (firsts ++ opening ∷ (between ++ closing ∷ after))
      → (b ≡ true) ⊎ ((slice_get (replies_to s messages) (length firsts) ≡ Some (no_memory hello)) ⊎ (slice_get (replies_to s messages) (length (firsts ++ opening ∷ between)) ≡ Some (no_memory stop)))
  unfolding replies_to
  begins_and_stops s [] firsts between after body before b is agree clear = absurd (not_empty before [] (exited b) is)
  begins_and_stops s (m ∷ ms) [] between after body before b is agree clear =
      let rest : List (List ℕ) = between ++ closing ∷ after in
      let here : IsNoExit m.body = subst IsNoExit (sym agree.0) (All-head IsNoExit opening rest clear) in
      let told : message_of m.body ≡ Some (request hello (codes "initialize") params) = ap message_of agree.0 ∙ opens in
      ⊎_elim (λ e. absurd (here s (left s m b e).meant))
      (λ more. ⊎_elim
      (λ begun. ⊎_elim inl (λ at. inr (inr (later_at (ends (outcome s m)) (outcome s m) (no_memory stop) (replies_to (session_after s m) ms) (length between) more.1 at)))
      (stops_or_lacks (session_after s m) ms between after body more.0 b more.2 agree.1 (All-tail IsNoExit opening rest clear) begun))
      (λ e. inr (inl (ap (λ (o : Outcome). Some o) e)))
      (opened s m hello params options told well_formed more.1))
      (exit_if (ends (outcome s m)) (outcome s m) (replies_to (session_after s m) ms) before b is)
  begins_and_stops s (m ∷ ms) (k ∷ ks) between after body before b is agree clear =
      let rest : List (List ℕ) = ks ++ opening ∷ (between ++ closing ∷ after) in
      let here : IsNoExit m.body = subst IsNoExit (sym agree.0) (All-head IsNoExit k rest clear) in
      ⊎_elim (λ e. absurd (here s (left s m b e).meant))
      (λ more. ⊎_elim inl
      (⊎_elim (λ at. inr (inl (later_at (ends (outcome s m)) (outcome s m) (no_memory hello) (replies_to (session_after s m) ms) (length ks) more.1 at)))
      (λ at. inr (inr (later_at (ends (outcome s m)) (outcome s m) (no_memory stop) (replies_to (session_after s m) ms) (length (ks ++ opening ∷ between)) more.1 at))))
      (begins_and_stops (session_after s m) ms ks between after body more.0 b more.2 agree.1 (All-tail IsNoExit k rest clear)))
      (exit_if (ends (outcome s m)) (outcome s m) (replies_to (session_after s m) ms) before b is)
