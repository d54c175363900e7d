-- A world in memory whose one client makes all changes.
use Rattle.std.proofs.Common.{◌≡◌, ◌∙◌, ◌⊎◌, ◌≤◌, ℕ, List, [], ◌∷◌, ◌++◌, length, length-append, refl, sym, ap, subst, inl, inr, Some}
use Rattle.decl_index.specs.declared.change.Change.{Change}
use Rattle.decl_index.specs.declared.change.ChangeFault.{ChangeFault}
use Rattle.decl_index.specs.declared.change.ChangeFault.TheVariants.{OutOfMemory}
use Rattle.decl_index.specs.Refusals.{Refuses}
use Rattle.version_board.specs.declared.snapshot.Snapshot.{Snapshot}
use Rattle.version_board.specs.Versions.{IsVersion}
use Rattle.outside.specs.Causes.{Rose}
use Rattle.outside.specs.declared.shelf.HeldFile.{HeldFile}
use Rattle.answers.proofs.Chains.{prefix_self}
use Rattle.sessions.specs.Worlds.{IsRead, MayRead}
use Rattle.sessions.specs.Publications.{Accepts, Declines, LeavesFiles}
use Rattle.sessions.specs.MemStates.{mem_state}

pub mem_read : (history : List Change) (old new : List ℕ) (files : List HeldFile) (faults n : ℕ) → n ≡ length history → new ≡ old ++ n ∷ [] → IsRead (mem_state history old files faults) (mem_state history new files faults)
mem_read history old new files faults n is added = record {
  later = prefix_self history;
  entry = added ∙ ap (λ k. old ++ k ∷ []) is;
  newest = refl;
  whole = refl;
  holds = refl;
  faults = refl;
}

pub mem_no_read : (history : List Change) (old new : List ℕ) (files : List HeldFile) (faults : ℕ) → new ≡ old → MayRead (mem_state history old files faults) (mem_state history new files faults)
mem_no_read history old new files faults same = record { later = prefix_self history; entry = inl same; whole = refl; holds = refl; faults = refl }

-- A change was made.
mem_accepts : (history next : List Change) (reads : List ℕ) (files : List HeldFile) (faults number : ℕ) (change : Change) → next ≡ history ++ change ∷ [] → number ≡ length next
    → ((fault : ChangeFault) → Refuses history change fault → ⊥) → Accepts change number (mem_state history reads files faults) (mem_state next reads files faults)
mem_accepts history next reads files faults number change is counted lawful = rw is (record {
  at = history;
  counted = counted ∙ ap length is ∙ length-append history (change ∷ []);
  lawful = lawful;
  adds = record { stands = prefix_self (history ++ change ∷ []); later = (change ∷ [], refl); reads = refl; grown = (refl, refl, refl); holds = refl; faults = refl };
})

refused_after : (history : List Change) (change : Change) (fault : ChangeFault) → (fault ≡ OutOfMemory) ⊎ Refuses history change fault → (fault ≡ OutOfMemory) ⊎ (Refuses history change fault × (history ≡ history))
refused_after history change fault (inl e) = inl e
refused_after history change fault (inr r) = inr (r, refl)

-- It was refused.
pub mem_declines : (history next : List Change) (reads : List ℕ) (files : List HeldFile) (faults : ℕ) (change : Change) (fault : ChangeFault) → next ≡ history → (fault ≡ OutOfMemory) ⊎ Refuses history change fault
    → Declines change fault (mem_state history reads files faults) (mem_state next reads files faults)
mem_declines history next reads files faults change fault is cause = rw is (record {
  cause = refused_after history change fault cause;
  learns = record { later = prefix_self history; reads = refl; whole = refl; holds = refl; faults = refl };
})

-- The first version, and the one after a change, as they are shared.
pub first_shared : (history : List Change) (shared s : Snapshot) → history ≡ [] → shared ≡ s → IsVersion [] s → IsVersion history shared
first_shared history shared s none same v = subst (λ h. IsVersion h shared) (sym none) (subst (IsVersion []) (sym same) v)

pub next_shared : (at here shared s : Snapshot) (change : Change) → here ≡ at → shared ≡ s → ((history : List Change) → IsVersion history here → IsVersion (history ++ change ∷ []) s)
    → (history : List Change) → IsVersion history at → IsVersion (history ++ change ∷ []) shared
next_shared at here shared s change is same next history v = subst (IsVersion (history ++ change ∷ [])) (sym same) (next history (subst (IsVersion history) (sym is) v))

pub still_lawful : (at here : Snapshot) (change : Change) → here ≡ at → ((history : List Change) → IsVersion history here → (fault : ChangeFault) → Refuses history change fault → ⊥)
    → (history : List Change) → IsVersion history at → (fault : ChangeFault) → Refuses history change fault → ⊥
still_lawful at here change is lawful history v = lawful history (subst (IsVersion history) (sym is) v)

pub still_refused : (at here : Snapshot) (change : Change) (fault : ChangeFault) → here ≡ at → ((history : List Change) → IsVersion history here → (fault ≡ OutOfMemory) ⊎ Refuses history change fault)
    → (history : List Change) → IsVersion history at → (fault ≡ OutOfMemory) ⊎ Refuses history change fault
still_refused at here change fault is refused history v = refused history (subst (IsVersion history) (sym is) v)

-- The same changes of the world of a version.
pub version_grown : (history next : List Change) (at after : Snapshot) (change : Change) → IsVersion history at → ((h : List Change) → IsVersion h at → IsVersion (h ++ change ∷ []) after) → next ≡ history ++ change ∷ [] → IsVersion next after
version_grown history next at after change v grown is = subst (λ h. IsVersion h after) (sym is) (grown history v)

pub version_accepts : (history next : List Change) (reads : List ℕ) (files : List HeldFile) (faults number : ℕ) (at after : Snapshot) (change : Change) → IsVersion history at → ((h : List Change) → IsVersion h at → IsVersion (h ++ change ∷ []) after)
    → ((h : List Change) → IsVersion h at → (fault : ChangeFault) → Refuses h change fault → ⊥) → next ≡ history ++ change ∷ [] → number ≡ after.number → Accepts change number (mem_state history reads files faults) (mem_state next reads files faults)
version_accepts history next reads files faults number at after change v grown lawful is counted =
    mem_accepts history next reads files faults number change is (counted ∙ (version_grown history next at after change v grown is).number) (lawful history v)

pub version_declines : (history : List Change) (reads : List ℕ) (files : List HeldFile) (faults : ℕ) (at : Snapshot) (change : Change) (fault : ChangeFault) → IsVersion history at
    → ((h : List Change) → IsVersion h at → (fault ≡ OutOfMemory) ⊎ Refuses h change fault) → Declines change fault (mem_state history reads files faults) (mem_state history reads files faults)
version_declines history reads files faults at change fault v refused = mem_declines history history reads files faults change fault refl (refused history v)

-- A file was loaded.
pub mem_files : (history : List Change) (reads : List ℕ) (old new : List HeldFile) (n m : ℕ) (P : Type 0) → Some new ≡ Some old → n ≤ m → (P → Rose n m) → LeavesFiles P (mem_state history reads old n) (mem_state history reads new m)
mem_files history reads old new n m P same later cause = record {
  same = ap (λ o. record { known = history; reads = reads; whole = Some history; holds = o; faults = m }) same;
  later = later;
  cause = cause;
}

pub ruleset versions = (first_shared, next_shared, still_lawful, still_refused)

pub ruleset told = (mem_read, mem_no_read, mem_declines, version_grown, version_accepts, version_declines, mem_files)
