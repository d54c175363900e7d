-- Which messages end a run by an `exit`.
use Rattle.std.proofs.Common.{◌≡◌, ◌⊎◌, inl, inr, ⊎_elim, ℕ, ap, sym, ◌∙◌, arith, List, [], ◌∷◌, ◌++◌, refl, length, subst, Bool, true, false, Some, None, length-append}
use Rattle.std.specs.Prelude.{if◌then◌else◌, All}
use Rattle.std.proofs.lemmas.List.Elements.{All-head, All-tail}
use Rattle.json_rpc.specs.declared.message.Id.{Id}
use Rattle.answers.specs.Asks.{Short, Enough, Lacking, Ending, Met, Loaded, classes, missing, too_long, no_class_file, no_text, unreadable}
use Rattle.answers.specs.Sessions.{Seen}
use Rattle.answers.specs.Messages.{Meaning, asks, publishes, says, lacks, starts, stops, edits, leaves, drops, meaning_of, published, by_memory, is_stopped, Outcome, replied, no_memory, silent, exited, lost}
use Rattle.answers.specs.Runs.{Message, ends, outcome, session_after, replies_to, seen_after}
use Rattle.sessions.specs.Served.{GoesOn, bodies_in}
use Rattle.endings.specs.Decided.{IsExit, IsNoExit}

abbrev IsExited : Outcome → Type 0
IsExited (replied body) = ⊥
IsExited (no_memory id) = ⊥
IsExited silent = ⊥
IsExited (exited b) = Unit {0}
IsExited lost = ⊥

abbrev stop_in : Outcome → Bool
stop_in (replied body) = false
stop_in (no_memory id) = false
stop_in silent = false
stop_in (exited b) = b
stop_in lost = false

abbrev pub IsTrue : Bool → Type 0
IsTrue true = Unit {0}
IsTrue false = ⊥

abbrev first_in : List (List ℕ) → List ℕ
first_in [] = []
first_in (x ∷ xs) = x

abbrev rest_in : List (List ℕ) → List (List ℕ)
rest_in [] = []
rest_in (x ∷ xs) = xs

abbrev first_out : Outcome → List Outcome → Outcome
first_out o [] = o
first_out o (x ∷ xs) = x

abbrev rest_out : List Outcome → List Outcome
rest_out [] = []
rest_out (x ∷ xs) = xs

-- A list with something in it isn't empty.
pub not_empty : {X : Type 0} (before more : List X) (x : X) → [] ≡ before ++ x ∷ more → ⊥
not_empty before more x e = omega (arith, ap length e, length-append before (x ∷ more))

-- A publication is no exit.
no_publication : (o : Loaded) (s : Seen) (id : Id) (removes : List (List ℕ)) (counts : List (List ℕ × ℕ)) (m : Met) → IsExited (published s id removes counts m o).1 → ⊥
no_publication (classes puts) s id removes counts m x = x
no_publication (missing index) s id removes counts m x = x
no_publication (too_long index) s id removes counts m x = x
no_publication (no_class_file index class_fault place) s id removes counts m x = x
no_publication (no_text index) s id removes counts m x = x
no_publication (unreadable index) s id removes counts m x = x

-- Only an exit is answered by the end of the session that tells whether it was stopped, and it leaves the session as it is.
pub record IsLeft (x : Short) (s : Seen) (meaning : Meaning) (m : Met) (b : Bool) : Type 0 where
  pub meant : meaning ≡ leaves
  pub stopped : b ≡ is_stopped (by_memory x s meaning m).0.phase

left_by : (x : Short) (s : Seen) (meaning : Meaning) (m : Met) (b : Bool) → (by_memory x s meaning m).1 ≡ exited b → IsLeft x s meaning m b
left_by Enough s (asks id ask) m b e = absurd (subst IsExited (sym e) tt)
left_by Enough s (publishes id files removes counts) m b e = absurd (no_publication m.loads s id removes counts m (subst IsExited (sym e) tt))
left_by Enough s (says id reply) m b e = absurd (subst IsExited (sym e) tt)
left_by Enough s (lacks id) m b e = absurd (subst IsExited (sym e) tt)
left_by Enough s (starts id options) m b e = absurd (subst IsExited (sym e) tt)
left_by Enough s (stops id) m b e = absurd (subst IsExited (sym e) tt)
left_by Enough s (edits uri edit) m b e = absurd (subst IsExited (sym e) tt)
left_by Enough s leaves m b e = record { meant = refl; stopped = ap stop_in (sym e) }
left_by Enough s drops m b e = absurd (subst IsExited (sym e) tt)
left_by Lacking s (asks id ask) m b e = absurd (subst IsExited (sym e) tt)
left_by Lacking s (publishes id files removes counts) m b e = absurd (subst IsExited (sym e) tt)
left_by Lacking s (says None reply) m b e = absurd (subst IsExited (sym e) tt)
left_by Lacking s (says (Some id) reply) m b e = absurd (subst IsExited (sym e) tt)
left_by Lacking s (lacks id) m b e = absurd (subst IsExited (sym e) tt)
left_by Lacking s (starts id options) m b e = absurd (subst IsExited (sym e) tt)
left_by Lacking s (stops id) m b e = absurd (subst IsExited (sym e) tt)
left_by Lacking s (edits uri edit) m b e = absurd (subst IsExited (sym e) tt)
left_by Lacking s leaves m b e = record { meant = refl; stopped = ap stop_in (sym e) }
left_by Lacking s drops m b e = absurd (subst IsExited (sym e) tt)
left_by Ending s meaning m b e = absurd (subst IsExited (sym e) tt)

pub left : (s : Seen) (m : Message) (b : Bool) → outcome s m ≡ exited b → IsLeft m.met.short s (meaning_of s m.body) m.met b
left s m b e = left_by m.met.short s (meaning_of s m.body) m.met b e

-- What follows a message, whether the session goes on or not.
pub exit_if : (e : Bool) (o : Outcome) (rest : List Outcome) (before : List Outcome) (b : Bool) → (o ∷ (if e then [] else rest)) ≡ before ++ exited b ∷ []
    → (o ≡ exited b) ⊎ ((others : List Outcome) × (e ≡ false) × (rest ≡ others ++ exited b ∷ []))
exit_if e o rest [] b is = inl (ap (first_out o) is)
exit_if true o rest (y ∷ ys) b is = absurd (not_empty ys [] (exited b) (ap rest_out is))
exit_if false o rest (y ∷ ys) b is = inr (ys, refl, ap rest_out is)

-- A run that ends by an exit has read one.
pub exit_is_read : (s : Seen) (messages : List Message) (before : List Outcome) (b : Bool) → replies_to s messages ≡ before ++ exited b ∷ [] → All IsNoExit (bodies_in messages) → ⊥
unfolding replies_to
exit_is_read s [] before b is clear = not_empty before [] (exited b) is
exit_is_read s (m ∷ ms) before b is clear =
    ⊎_elim (λ e. All-head IsNoExit m.body (bodies_in ms) clear s (left s m b e).meant)
    (λ more. exit_is_read (session_after s m) ms more.0 b more.2 (All-tail IsNoExit m.body (bodies_in ms) clear))
    (exit_if (ends (outcome s m)) (outcome s m) (replies_to (session_after s m) ms) before b is)

-- It tells whether the session was stopped by then.
pub stop_is_told : (s : Seen) (messages : List Message) (before : List Outcome) (b : Bool) → replies_to s messages ≡ before ++ exited b ∷ [] → b ≡ is_stopped (seen_after s messages).phase
unfolding replies_to seen_after
stop_is_told s [] before b is = absurd (not_empty before [] (exited b) is)
stop_is_told s (m ∷ ms) before b is =
    ⊎_elim
    (λ e. let ended : ends (outcome s m) ≡ true = ap ends e in
    subst (λ (x : Bool). b ≡ is_stopped (if x then session_after s m else seen_after (session_after s m) ms).phase) (sym ended) (left s m b e).stopped)
    (λ more. subst (λ (x : Bool). b ≡ is_stopped (if x then session_after s m else seen_after (session_after s m) ms).phase) (sym more.1)
    (stop_is_told (session_after s m) ms more.0 b more.2))
    (exit_if (ends (outcome s m)) (outcome s m) (replies_to (session_after s m) ms) before b is)

-- An exit ends the session.
ends_by : (x : Short) (s : Seen) (m : Met) → ends (by_memory x s leaves m).1 ≡ true
ends_by Enough s m = refl
ends_by Lacking s m = refl
ends_by Ending s m = refl

pub exit_ends : (s : Seen) (m : Message) → IsExit m.body → GoesOn (outcome s m) → ⊥
exit_ends s m is on =
    let e : ends (outcome s m) ≡ true = ap (λ x. ends (by_memory m.met.short s x m.met).1) (is s) ∙ ends_by m.met.short s m.met in
    subst IsTrue (sym e ∙ on) tt

-- A run that goes on after each message has read no exit.
pub none_goes_on : (s : Seen) (messages : List Message) (firsts more : List (List ℕ)) (body : List ℕ) → bodies_in messages ≡ firsts ++ body ∷ more → IsExit body
    → All GoesOn (replies_to s messages) → ⊥
unfolding replies_to
none_goes_on s [] firsts more body is exit on = not_empty firsts more body is
none_goes_on s (m ∷ ms) [] more body is exit on =
    let here : IsExit m.body = subst IsExit (sym (ap first_in is)) exit in
    let rest : List Outcome = if ends (outcome s m) then [] else replies_to (session_after s m) ms in
    exit_ends s m here (All-head GoesOn (outcome s m) rest on)
none_goes_on s (m ∷ ms) (f ∷ fs) more body is exit on =
    let rest : List Outcome = if ends (outcome s m) then [] else replies_to (session_after s m) ms in
    let goes : GoesOn (outcome s m) = All-head GoesOn (outcome s m) rest on in
    let others : All GoesOn (replies_to (session_after s m) ms) =
    subst (λ (x : Bool). All GoesOn (if x then [] else replies_to (session_after s m) ms)) goes (All-tail GoesOn (outcome s m) rest on) in
    none_goes_on (session_after s m) ms fs more body (ap rest_in is) exit others
