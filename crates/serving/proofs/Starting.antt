-- At which version a server starts, and what is wrong with a start text.
use Rattle.std.proofs.Common.{◌≡◌, ◌⊎◌, inl, inr, ⊎_elim, ℕ, List, [], ◌∷◌, Option, Some, None, Result, Ok, Err, refl, sym, subst}
use Rattle.std.specs.Prelude.{IfOk, IfErr, MatchResult}
use Rattle.outside.specs.declared.shelf.HeldFile.{HeldFile}
use Rattle.known_classes.specs.declared.summary.ClassSummary.{ClassSummary}
use Rattle.version_board.specs.declared.snapshot.Snapshot.{Snapshot}
use Rattle.version_board.specs.Versions.{IsVersion}
use Rattle.start_text.specs.declared.fault.StartFault.{StartFault}
use Rattle.start_text.specs.declared.fault.StartFault.TheVariants.{NoText, LongText, NotUtf8, NoFile, LongFile, NotClass, Refused, Failed, OutOfMemory}
use Rattle.start_text.specs.Faults.{IsOutside}
use Rattle.start_text.specs.Starts.{publication, IsStart, IsFaultOf}
use Rattle.serving.specs.Services.{history_of, IsFirst, IsStartFault}
use Rattle.serving.proofs.Versions.{same_version}

-- the version 0
pub first-empty : (held : Option (List HeldFile)) (s : Snapshot) → IsVersion [] s → IsFirst None held s
first-empty held s v =
    let none : history_of s ≡ [] = rw v.number refl in
    record {
      version = rw none v;
      first = none;
      sound = λ name files fault e. absurd cc;
    }

-- the version of a start text
first-started : (name : List ℕ) (held : Option (List HeldFile)) (s : Snapshot)
    → (classes : List ClassSummary) × IsVersion (publication classes ∷ []) s × ((files : List HeldFile) → held ≡ Some files → IsStart files name classes)
    → ((files : List HeldFile) (wrong : StartFault) → held ≡ Some files → IsFaultOf files name wrong → ⊥) → IsFirst (Some name) held s
first-started name held s (classes, v, start) sound =
    let one : history_of s ≡ publication s.index.classes ∷ [] = rw v.number refl in
    record {
      version = rw one (same_version classes s v);
      first = (classes, s.index.classes, one, v.state.classes, start);
      sound = λ other files fault e held fault_of. sound files fault held (subst (λ n. IsFaultOf files n fault) (let same : other ≡ name = cc in same) fault_of);
    }

-- whether it is of the outside
outside-or : (fault : StartFault) → IsOutside fault ⊎ (IsOutside fault → ⊥)
outside-or NoText = inr (λ h. h)
outside-or LongText = inr (λ h. h)
outside-or NotUtf8 = inr (λ h. h)
outside-or (NoFile line) = inr (λ h. h)
outside-or (LongFile line) = inr (λ h. h)
outside-or (NotClass line why) = inr (λ h. h)
outside-or (Refused why) = inr (λ h. h)
outside-or Failed = inl tt
outside-or OutOfMemory = inl tt

other : {A B : Type 0} → A ⊎ B → (A → ⊥) → B
other h not_so = ⊎_elim (λ a. absurd (not_so a)) (λ b. b) h

start-fault : (name : List ℕ) (held : Option (List HeldFile)) (fault : StartFault)
    → ((files : List HeldFile) → held ≡ Some files → IsOutside fault ⊎ IsFaultOf files name fault)
    → ((files : List HeldFile) (wrong : StartFault) → held ≡ Some files → IsFaultOf files name wrong → IsOutside fault ⊎ (fault ≡ wrong))
    → IsOutside fault ⊎ IsStartFault (Some name) held fault
start-fault name held fault is alone = ⊎_elim inl (λ inside. inr (record {
  name = name;
  named = refl;
  wrong = λ files told. other (is files told) inside;
  alone = λ files wrong told of. sym (other (alone files wrong told of) inside);
})) (outside-or fault)

-- the same by what reading it answers
pub first-of : (name : List ℕ) (held : Option (List HeldFile)) (r : Result Snapshot StartFault)
    → IfOk r (λ s. (classes : List ClassSummary) × IsVersion (publication classes ∷ []) s × ((files : List HeldFile) → held ≡ Some files → IsStart files name classes))
    → ((files : List HeldFile) (wrong : StartFault) → held ≡ Some files → IsFaultOf files name wrong → MatchResult r (λ s. ⊥) (λ fault. IsOutside fault ⊎ (fault ≡ wrong)))
    → IfOk r (λ s. IsFirst (Some name) held s)
first-of name held (Ok s) version refused = first-started name held s version refused
first-of name held (Err fault) version refused = tt

pub fault-of : (name : List ℕ) (held : Option (List HeldFile)) (r : Result Snapshot StartFault)
    → ((files : List HeldFile) → held ≡ Some files → IfErr r (λ fault. IsOutside fault ⊎ IsFaultOf files name fault))
    → ((files : List HeldFile) (wrong : StartFault) → held ≡ Some files → IsFaultOf files name wrong → MatchResult r (λ s. ⊥) (λ fault. IsOutside fault ⊎ (fault ≡ wrong)))
    → IfErr r (λ fault. IsOutside fault ⊎ IsStartFault (Some name) held fault)
fault-of name held (Ok s) is refused = tt
fault-of name held (Err fault) is refused = start-fault name held fault is refused
