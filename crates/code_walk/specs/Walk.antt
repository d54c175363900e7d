-- The instructions of a method's code (JVMS 4.7.3 and 4.9.1), and the first place where none stands.
use Rattle.std.specs.Prelude.{◌≡◌, ℕ, ◌+◌, ◌-◌, ◌<◌, ◌≤◌, List, [], ◌∷◌, length, drop, Some}
use Rattle.code_walk.specs.declared.fault.WalkFault.{WalkFault}
use Rattle.code_walk.specs.declared.walk.Instr.{Instr}
use Rattle.code_walk.specs.Lengths.{length_at, fault_at}

-- An instruction at a place of the code, which begins at `start` of the file: the bytes from there on hold it whole.
pub record IsInstruction (start at : ℕ) (bytes : List ℕ) (i : Instr) : Type 0 where
  pub place : i.at ≡ start + at
  pub len : length_at at bytes ≡ Some i.len
  pub within : i.len ≤ length bytes

-- The instructions stand end to end from a place of the code on, and `rest` is left after them.
abbrev pub StandEndToEnd : ℕ → ℕ → List ℕ → List Instr → List ℕ → Type 0
StandEndToEnd start at bytes [] rest = rest ≡ bytes
StandEndToEnd start at bytes (i ∷ more) rest = IsInstruction start at bytes i × StandEndToEnd start (at + i.len) (drop i.len bytes) more rest

-- The instructions tile the code.
abbrev pub AreInstructions : ℕ → List ℕ → List Instr → Type 0
AreInstructions start code list = StandEndToEnd start 0 code list []

-- Instructions stand end to end up to the fault's place; the code goes on there, and what stands there has the cause.
pub record IsFirstFault (start : ℕ) (code : List ℕ) (fault : WalkFault) : Type 0 where
  pub before : List Instr
  pub rest : List ℕ
  pub stand : StandEndToEnd start 0 code before rest
  pub due : 0 < length rest
  pub place : fault.at ≡ start + (length code - length rest)
  pub cause : fault_at (length code - length rest) rest ≡ Some fault.cause
