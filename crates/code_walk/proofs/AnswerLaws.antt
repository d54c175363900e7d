-- What the walk answers, both ways: the one list or the one first fault, or want of memory.
use Rattle.std.proofs.Common.{◌≡◌, ◌≢◌, ℕ, zero, suc, ◌-◌, List, length, Result, Ok, Err, IfOk, IfErr, MatchResult, refl, ap}
use Rattle.code_walk.specs.declared.walk.Instr.{Instr}
use Rattle.code_walk.specs.declared.fault.WalkFault.{WalkFault}
use Rattle.code_walk.specs.declared.fault.WalkCause.{WalkCause}
use Rattle.code_walk.specs.declared.fault.WalkCause.TheVariants.{Attribute, Opcode, Cut, Switch, Place, OutOfMemory}
use Rattle.code_walk.specs.Faults.{no_memory}
use Rattle.code_walk.specs.Lengths.{extent_at}
use Rattle.code_walk.specs.Walk.{AreInstructions, IsFirstFault}
use Rattle.code_walk.proofs.LengthLaws.{not_memory}
use Rattle.code_walk.proofs.WalkLaws.{one_list, one_fault, not_list_and_fault}

abbrev told : ℕ → WalkCause → WalkFault
told at cause = record { at = at; cause = cause }

of_memory : (at : ℕ) → (told at OutOfMemory ≢ no_memory → ⊥) → told at OutOfMemory ≡ no_memory
of_memory zero h = refl
of_memory (suc n) h = absurd (h (λ e. let k : suc n ≡ 0 = ap (λ (f : WalkFault). f.at) e in absurd cc))

other_cause : (at : ℕ) (cause : WalkCause) → (cause ≡ OutOfMemory → ⊥) → told at cause ≢ no_memory
other_cause at cause h e = h (ap (λ (f : WalkFault). f.cause) e)

told_memory : (at : ℕ) (cause : WalkCause) → (told at cause ≢ no_memory → ⊥) → told at cause ≡ no_memory
told_memory at OutOfMemory h = of_memory at h
told_memory at Attribute h = absurd (h (other_cause at Attribute (λ e. absurd cc)))
told_memory at Opcode h = absurd (h (other_cause at Opcode (λ e. absurd cc)))
told_memory at Cut h = absurd (h (other_cause at Cut (λ e. absurd cc)))
told_memory at Switch h = absurd (h (other_cause at Switch (λ e. absurd cc)))
told_memory at Place h = absurd (h (other_cause at Place (λ e. absurd cc)))

pub is_memory : (fault : WalkFault) → (fault ≢ no_memory → ⊥) → fault ≡ no_memory
is_memory fault h = told_memory fault.at fault.cause h

fault_of_bytes : (start : ℕ) (code : List ℕ) (fault : WalkFault) → IsFirstFault start code fault → fault.cause ≡ OutOfMemory → ⊥
fault_of_bytes start code fault f e = not_memory (length f.rest) (extent_at (length code - length f.rest) f.rest) (rw e at f.cause)

-- a list that tiles the code, or the first fault unless memory ran out
module _ {V : Type 0} (items : V → List Instr) (start : ℕ) (code : List ℕ) where
  abbrev pub Found : Result V WalkFault → Type 0
  Found r = IfOk r (λ v. AreInstructions start code (items v))

  abbrev pub First : Result V WalkFault → Type 0
  First r = IfErr r (λ fault. fault ≢ no_memory → IsFirstFault start code fault)

  pub only : (r : Result V WalkFault) → Found r → First r → (list : List Instr) → AreInstructions start code list → MatchResult r (λ v. items v ≡ list) (λ fault. fault ≡ no_memory)
  only (Ok v) f g list h = one_list start code (items v) list f h
  only (Err fault) f g list h = is_memory fault (λ some. not_list_and_fault start code list fault h (g some))

  pub first : (r : Result V WalkFault) → First r → IfErr r (λ fault. fault.cause ≢ OutOfMemory → IsFirstFault start code fault)
  first (Ok v) g = tt
  first (Err fault) g = λ h. g (λ e. h (ap (λ (f : WalkFault). f.cause) e))

  pub refused : (r : Result V WalkFault) → Found r → First r → (fault : WalkFault) → IsFirstFault start code fault → MatchResult r (λ _. ⊥) (λ answered. answered ≢ no_memory → answered ≡ fault)
  refused (Ok v) f g fault h = not_list_and_fault start code (items v) fault f h
  refused (Err answered) f g fault h = λ some. one_fault start code answered fault (g some) h

  pub memory : (r : Result V WalkFault) → First r → IfErr r (λ fault. fault.cause ≡ OutOfMemory → fault.at ≡ 0)
  memory (Ok v) g = tt
  memory (Err fault) g = λ e. ap (λ (f : WalkFault). f.at) (is_memory fault (λ some. fault_of_bytes start code fault (g some) e))
