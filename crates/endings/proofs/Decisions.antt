-- What an input says of the status of its session.
use Rattle.std.proofs.Common.{◌≡◌, ◌⊎◌, inl, inr, ⊎_elim, ℕ, ap, sym, ◌∙◌, List, [], ◌∷◌, ◌++◌, refl, subst, Bool, true, false, Option, Some, None, append_assoc}
use Rattle.std.specs.Prelude.{All}
use Rattle.std.proofs.lemmas.List.Elements.{All-nil, All-cons, All-head, All-tail}
use Rattle.json_rpc.specs.Whole.{AreFramesOf, BeginFramesOf}
use Rattle.json_rpc.specs.declared.fault.FrameFault.{FrameFault}
use Rattle.json_rpc.specs.declared.fault.FrameFault.TheVariants.{Header, NoLength, TooLong, Cut, ReadFault, Budget, OutOfMemory}
use Rattle.answers.specs.Sessions.{Seen}
use Rattle.answers.specs.Messages.{exited, is_stopped}
use Rattle.answers.specs.Runs.{Message, replies_to}
use Rattle.sessions.specs.Worlds.{WorldState}
use Rattle.sessions.specs.declared.ending.Ended.{Ended}
use Rattle.sessions.specs.declared.ending.Ending as ways
use Rattle.sessions.specs.declared.ending.Ending.TheVariants.{Exit, Input, Frames, Sink, Memory}
use Rattle.sessions.specs.Served.{Serves, ServesWith, GoesOn, EndsWith, bodies_in, status_of}
use Rattle.endings.specs.Decided.{IsExit, IsNoExit, IsOutside, IsShort, end_status, FramesDecide, ExitDecides, ExitAloneFails, ShutdownEndsWell}
use Rattle.endings.proofs.Readings.{Agree, one_reading, first_of_all, all_agree}
use Rattle.endings.proofs.Exits.{exit_is_read, stop_is_told, none_goes_on}
use Rattle.endings.proofs.Phases.{exit_alone, is_up, begins_and_stops}

-- The first of bodies that are no exits are none.
first_are : (firsts more : List (List ℕ)) → All IsNoExit (firsts ++ more) → All IsNoExit firsts
first_are [] more clear = All-nil IsNoExit
first_are (x ∷ xs) more clear = All-cons IsNoExit x xs (All-head IsNoExit x (xs ++ more) clear) (first_are xs more (All-tail IsNoExit x (xs ++ more) clear))

-- The status of a session whose messages end by an exit.
record Leaves (s : Seen) (input : List ℕ) (messages : List Message) (ended : Ended) : Type 0 where
  stop : Bool
  told : ended ≡ status_of (Exit stop)
  is : EndsWith (replies_to s messages) (exited stop)
  read : BeginFramesOf input (bodies_in messages)

module _ (s next : Seen) (input : List ℕ) (before after : Option (List ℕ)) (old new : WorldState) where
  -- Over an input without an exit.
  frames_by : (way : ways.Ending) (bodies : List (List ℕ)) (end : Option FrameFault) → Serves s next (Some input) before after old new way
      → AreFramesOf input bodies end → All IsNoExit bodies → IsOutside (status_of way) ⊎ (status_of way ≡ end_status end)
  frames_by (Exit b) bodies end h are clear =
      let first : (more : List (List ℕ)) × (bodies ≡ bodies_in h.messages ++ more) = first_of_all input bodies (bodies_in h.messages) end are h.read in
      absurd (exit_is_read s h.messages h.ended_by.before b h.ended_by.is (first_are (bodies_in h.messages) first.0 (subst (All IsNoExit) first.1 clear)))
  frames_by Input bodies end h are clear = inr (ap end_status (one_reading input (bodies_in h.messages) bodies None end h.read are).1)
  frames_by (Frames (Header k)) bodies end h are clear = inr (ap end_status (one_reading input (bodies_in h.messages) bodies (Some (Header k)) end h.read are).1)
  frames_by (Frames (NoLength k)) bodies end h are clear = inr (ap end_status (one_reading input (bodies_in h.messages) bodies (Some (NoLength k)) end h.read are).1)
  frames_by (Frames (TooLong k)) bodies end h are clear = inr (ap end_status (one_reading input (bodies_in h.messages) bodies (Some (TooLong k)) end h.read are).1)
  frames_by (Frames (Cut k)) bodies end h are clear = inr (ap end_status (one_reading input (bodies_in h.messages) bodies (Some (Cut k)) end h.read are).1)
  frames_by (Frames Budget) bodies end h are clear = inr (ap end_status (one_reading input (bodies_in h.messages) bodies (Some Budget) end h.read are).1)
  frames_by (Frames ReadFault) bodies end h are clear = inl (inl refl)
  frames_by (Frames OutOfMemory) bodies end h are clear = inl (inr (inr refl))
  frames_by Sink bodies end h are clear = inl (inr (inl refl))
  frames_by Memory bodies end h are clear = inl (inr (inr refl))

  -- The frames up to an exit aren't all, where the session went on after each.
  not_all : (messages : List Message) (end : Option FrameFault) (bodies : List (List ℕ)) (body : List ℕ) → AreFramesOf input (bodies_in messages) end
      → All GoesOn (replies_to s messages) → BeginFramesOf input (bodies ++ body ∷ []) → IsExit body → ⊥
  not_all messages end bodies body are on begins exit =
      let first : (more : List (List ℕ)) × (bodies_in messages ≡ (bodies ++ body ∷ []) ++ more) = first_of_all input (bodies_in messages) (bodies ++ body ∷ []) end are begins in
      none_goes_on s messages bodies first.0 body (first.1 ∙ append_assoc bodies (body ∷ []) first.0) exit on

  -- The session of an input with an exit ended by one, unless something outside of it failed.
  leaves_by : (way : ways.Ending) (bodies : List (List ℕ)) (body : List ℕ) (h : Serves s next (Some input) before after old new way)
      → BeginFramesOf input (bodies ++ body ∷ []) → IsExit body → IsOutside (status_of way) ⊎ Leaves s input h.messages (status_of way)
  leaves_by (Exit b) bodies body h begins exit = inr (record { stop = b; told = refl; is = h.ended_by; read = h.read })
  leaves_by Input bodies body h begins exit = absurd (not_all h.messages None bodies body h.read h.ended_by begins exit)
  leaves_by (Frames (Header k)) bodies body h begins exit = absurd (not_all h.messages (Some (Header k)) bodies body h.read h.ended_by begins exit)
  leaves_by (Frames (NoLength k)) bodies body h begins exit = absurd (not_all h.messages (Some (NoLength k)) bodies body h.read h.ended_by begins exit)
  leaves_by (Frames (TooLong k)) bodies body h begins exit = absurd (not_all h.messages (Some (TooLong k)) bodies body h.read h.ended_by begins exit)
  leaves_by (Frames (Cut k)) bodies body h begins exit = absurd (not_all h.messages (Some (Cut k)) bodies body h.read h.ended_by begins exit)
  leaves_by (Frames Budget) bodies body h begins exit = absurd (not_all h.messages (Some Budget) bodies body h.read h.ended_by begins exit)
  leaves_by (Frames ReadFault) bodies body h begins exit = inl (inl refl)
  leaves_by (Frames OutOfMemory) bodies body h begins exit = inl (inr (inr refl))
  leaves_by Sink bodies body h begins exit = inl (inr (inl refl))
  leaves_by Memory bodies body h begins exit = inl (inr (inr refl))

  leaves_with : (ended : Ended) (bodies : List (List ℕ)) (body : List ℕ) (h : ServesWith s next (Some input) before after old new ended)
      → BeginFramesOf input (bodies ++ body ∷ []) → IsExit body → IsOutside ended ⊎ Leaves s input h.serves.messages ended
  leaves_with ended bodies body h begins exit =
      subst (λ (e : Ended). IsOutside e ⊎ Leaves s input h.serves.messages e) (sym h.told) (leaves_by h.way bodies body h.serves begins exit)

pub frames_decide : FramesDecide
frames_decide s next input before after old new ended bodies end h are clear =
    subst (λ (e : Ended). IsOutside e ⊎ (e ≡ end_status end)) (sym h.told) (frames_by s next input before after old new h.way bodies end h.serves are clear)

pub exit_decides : ExitDecides
exit_decides s next input before after old new ended bodies body h begins exit =
    ⊎_elim inl (λ (l : Leaves s input h.serves.messages ended).
    inr (l.told ∙ ap (λ (x : Bool). status_of (Exit x)) (stop_is_told s h.serves.messages l.is.before l.stop l.is.is ∙ ap (λ (x : Seen). is_stopped x.phase) (sym h.serves.session))))
    (leaves_with s next input before after old new ended bodies body h begins exit)

pub exit_alone_fails : ExitAloneFails
exit_alone_fails s next input before after old new ended bodies body up h begins none exit =
    ⊎_elim inl (λ (l : Leaves s input h.serves.messages ended).
    let agree : Agree (bodies_in h.serves.messages) (bodies ++ body ∷ []) = all_agree input (bodies_in h.serves.messages) (bodies ++ body ∷ []) l.read begins in
    inr (l.told ∙ ap (λ (x : Bool). status_of (Exit x)) (exit_alone s h.serves.messages bodies body l.is.before l.stop l.is.is agree none exit (is_up s.phase up))))
    (leaves_with s next input before after old new ended bodies body h begins exit)

either_status : (ended : Ended) (b : Bool) (Short : Type 0) → ended ≡ status_of (Exit b) → (b ≡ true) ⊎ Short → (ended ≡ status_of (Exit true)) ⊎ ((ended ≡ status_of (Exit false)) × Short)
either_status ended true Short told h = inl told
either_status ended false Short told (inl e) = inl (told ∙ ap (λ (x : Bool). status_of (Exit x)) e)
either_status ended false Short told (inr short) = inr (told, short)

pub shutdown_ends_well : ShutdownEndsWell
shutdown_ends_well s next input before after old new ended bodies body hello stop h begins clear exit d =
    ⊎_elim inl (λ (l : Leaves s input h.serves.messages ended).
    let all : List (List ℕ) = d.before ++ d.opening ∷ (d.between ++ d.closing ∷ d.after) in
    let agree : Agree (bodies_in h.serves.messages) (all ++ body ∷ []) =
    subst (λ (xs : List (List ℕ)). Agree (bodies_in h.serves.messages) (xs ++ body ∷ [])) d.are (all_agree input (bodies_in h.serves.messages) (bodies ++ body ∷ []) l.read begins) in
    inr (either_status ended l.stop (IsShort bodies hello stop d (replies_to s h.serves.messages)) l.told
    (begins_and_stops hello stop d.opening d.closing d.params d.last_params d.options d.opens d.well_formed d.closes
    s h.serves.messages d.before d.between d.after body l.is.before l.stop l.is.is agree (subst (All IsNoExit) d.are clear))))
    (leaves_with s next input before after old new ended bodies body h begins exit)
