-- A world of versions that others publish as well.
use Rattle.std.proofs.Common.{◌≡◌, ◌⊎◌, ◌≤◌, ℕ, List, [], ◌∷◌, ◌++◌, length, refl, inl, inr, Option, Result, Ok, Err}
use Rattle.std.specs.Prelude.{IfOk, IfErr}
use mathlib.Core.List.{IsPrefix as Begins}
use Rattle.decl_index.specs.declared.change.Change.{Change}
use Rattle.decl_index.specs.declared.change.ChangeFault.{ChangeFault}
use Rattle.decl_index.specs.declared.change.ChangeFault.TheVariants.{OutOfMemory}
use Rattle.decl_index.specs.Refusals.{Refuses}
use Rattle.outside.specs.Causes.{Rose}
use Rattle.outside.specs.declared.shelf.HeldFile.{HeldFile}
use Rattle.version_board.specs.declared.view.View.{View}
use Rattle.version_board.specs.Accepted.{IsAccepted}
use Rattle.sessions.specs.Worlds.{IsRead, MayRead}
use Rattle.sessions.specs.Publications.{Accepts, Declines, LeavesFiles}
use Rattle.sessions.specs.RunningStates.{running_state}

pub running_read : (old new : View) (holds : Option (List HeldFile)) (n : ℕ) → Begins old.seen new.seen → new.reads ≡ old.reads ++ length new.seen ∷ [] → IsRead (running_state old holds n) (running_state new holds n)
running_read old new holds n later added = record {
  later = (later.0, later.1);
  entry = added;
  newest = tt;
  whole = refl;
  holds = refl;
  faults = refl;
}

pub running_may_read : (old new : View) (holds : Option (List HeldFile)) (n : ℕ) → Begins old.seen new.seen → new.reads ≡ old.reads ++ length new.seen ∷ [] → MayRead (running_state old holds n) (running_state new holds n)
running_may_read old new holds n later added = record { later = (later.0, later.1); entry = inr added; whole = refl; holds = refl; faults = refl }

-- A change was accepted.
running_accepts : (old new : View) (holds : Option (List HeldFile)) (n : ℕ) (change : Change) (number : ℕ) → Begins old.seen new.seen → new.reads ≡ old.reads → IsAccepted new.seen change number
    → Accepts change number (running_state old holds n) (running_state new holds n)
running_accepts old new holds n change number later reads is = record {
  at = is.before;
  counted = is.counted;
  lawful = is.lawful.lawful;
  adds = record { stands = (is.stands.0, is.stands.1); later = (later.0, later.1); reads = reads; grown = refl; holds = refl; faults = refl };
}

refused_after : (old new : View) (holds : Option (List HeldFile)) (n : ℕ) (change : Change) (fault : ChangeFault) → (fault ≡ OutOfMemory) ⊎ Refuses new.seen change fault
    → (fault ≡ OutOfMemory) ⊎ (Refuses new.seen change fault × Unit {0})
refused_after old new holds n change fault (inl e) = inl e
refused_after old new holds n change fault (inr r) = inr (r, tt)

-- It was refused.
running_declines : (old new : View) (holds : Option (List HeldFile)) (n : ℕ) (change : Change) (fault : ChangeFault) → Begins old.seen new.seen → new.reads ≡ old.reads → (fault ≡ OutOfMemory) ⊎ Refuses new.seen change fault
    → Declines change fault (running_state old holds n) (running_state new holds n)
running_declines old new holds n change fault later reads cause = record {
  cause = refused_after old new holds n change fault cause;
  learns = record { later = (later.0, later.1); reads = reads; whole = refl; holds = refl; faults = refl };
}

-- The same by what publishing answers.
pub running_accepted : (old new : View) (holds : Option (List HeldFile)) (n : ℕ) (change : Change) (r : Result ℕ ChangeFault) → Begins old.seen new.seen → new.reads ≡ old.reads → IfOk r (λ number. IsAccepted new.seen change number)
    → IfOk r (λ number. Accepts change number (running_state old holds n) (running_state new holds n))
running_accepted old new holds n change (Ok number) later reads is = running_accepts old new holds n change number later reads is
running_accepted old new holds n change (Err fault) later reads is = tt

pub running_declined : (old new : View) (holds : Option (List HeldFile)) (n : ℕ) (change : Change) (r : Result ℕ ChangeFault) → Begins old.seen new.seen → new.reads ≡ old.reads → IfErr r (λ fault. (fault ≡ OutOfMemory) ⊎ Refuses new.seen change fault)
    → IfErr r (λ fault. Declines change fault (running_state old holds n) (running_state new holds n))
running_declined old new holds n change (Ok number) later reads is = tt
running_declined old new holds n change (Err fault) later reads is = running_declines old new holds n change fault later reads is

-- A file was loaded.
pub running_files : (v : View) (old new : Option (List HeldFile)) (n m : ℕ) (P : Type 0) → new ≡ old → n ≤ m → (P → Rose n m) → LeavesFiles P (running_state v old n) (running_state v new m)
running_files v old new n m P same later cause = rw same (record { same = refl; later = later; cause = cause })

pub ruleset running = (running_read, running_may_read, running_accepted, running_declined, running_files)
