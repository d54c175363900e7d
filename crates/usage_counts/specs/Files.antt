-- The uses in a class file: all its instructions, code by code, or the first fault.
use Rattle.std.specs.Prelude.{◌≡◌, ℕ, ◌+◌, ◌≤◌, true, false, List, [], ◌∷◌, ◌++◌, slice_range, ◌⊎◌}
use Rattle.std.specs.List.{AllByRecursion, flat_map}
use Rattle.class_pool.specs.Spelling.{Entry, Head, IsPoolOf}
use Rattle.code_walk.specs.declared.walk.Instr.{Instr}
use Rattle.code_walk.specs.declared.fault.WalkFault.{WalkFault}
use Rattle.code_walk.specs.declared.fault.WalkCause.TheVariants.{Place}
use Rattle.code_walk.specs.Walk.{AreInstructions, IsFirstFault}
use Rattle.code_walk.specs.Code.{AreCodes, IsCodeFault}
use Rattle.usage_counts.specs.Counts.{Key}
use Rattle.usage_counts.specs.Uses.{is_named, used}

-- The bytes of a code.
abbrev pub code_in : List ℕ → ℕ × ℕ → List ℕ
code_in bytes range = slice_range bytes range.0 range.1

-- The range lies within so many bytes.
abbrev pub LiesIn : ℕ → ℕ × ℕ → Type 0
LiesIn bound range = (range.0 ≤ range.1) × (range.1 ≤ bound)

-- Each instruction names no member, or one that stands in the pool.
abbrev pub AreNamed : List Entry → List ℕ → List Instr → Type 0
AreNamed es bytes list = AllByRecursion (λ i. is_named es bytes i ≡ true) list

-- The keys that the code uses, in order: instructions tile it, and each names its member.
pub record UsesOfCode (es : List Entry) (bytes : List ℕ) (range : ℕ × ℕ) (keys : List Key) : Type 0 where
  pub list : List Instr
  pub tiled : AreInstructions range.0 (code_in bytes range) list
  pub named : AreNamed es bytes list
  pub keys_are : keys ≡ flat_map (used es bytes) list

-- The keys that these codes use, one code after the other.
abbrev pub UsesOfCodes : List Entry → List ℕ → List (ℕ × ℕ) → List Key → Type 0
UsesOfCodes es bytes [] keys = keys ≡ []
UsesOfCodes es bytes (range ∷ more) keys = (first : List Key) × (rest : List Key) × (keys ≡ first ++ rest) × UsesOfCode es bytes range first × UsesOfCodes es bytes more rest

-- The keys that a class file uses, in file order.
pub record AreUses (bytes : List ℕ) (keys : List Key) : Type 0 where
  pub head : Head
  pub is_pool : IsPoolOf bytes head
  pub ranges : List (ℕ × ℕ)
  pub codes : AreCodes bytes ranges
  pub uses : UsesOfCodes head.entries bytes ranges keys

-- The first of these instructions that names a member by an index that isn't one, at that index.
abbrev pub IsPlaceFault : List Entry → List ℕ → List Instr → WalkFault → Type 0
IsPlaceFault es bytes [] fault = ⊥
IsPlaceFault es bytes (i ∷ more) fault = ((is_named es bytes i ≡ false) × (fault ≡ record { at = i.at + 1; cause = Place })) ⊎ ((is_named es bytes i ≡ true) × IsPlaceFault es bytes more fault)

-- Instructions tile the code, and one of them has the fault.
pub record HasPlaceFault (es : List Entry) (bytes : List ℕ) (range : ℕ × ℕ) (fault : WalkFault) : Type 0 where
  pub list : List Instr
  pub tiled : AreInstructions range.0 (code_in bytes range) list
  pub place : IsPlaceFault es bytes list fault

-- The first fault of a code: that of its instructions before one of its places.
abbrev pub IsFaultOfCode : List Entry → List ℕ → ℕ × ℕ → WalkFault → Type 0
IsFaultOfCode es bytes range fault = IsFirstFault range.0 (code_in bytes range) fault ⊎ HasPlaceFault es bytes range fault

abbrev pub HasUses : List Entry → List ℕ → ℕ × ℕ → Type 0
HasUses es bytes range = (keys : List Key) × UsesOfCode es bytes range keys

-- The first fault of these codes: the codes before it have none.
abbrev pub IsFaultOfCodes : List Entry → List ℕ → List (ℕ × ℕ) → WalkFault → Type 0
IsFaultOfCodes es bytes [] fault = ⊥
IsFaultOfCodes es bytes (range ∷ more) fault = IsFaultOfCode es bytes range fault ⊎ (HasUses es bytes range × IsFaultOfCodes es bytes more fault)

-- Every `Code` attribute is one, and the fault is the first of the codes.
pub record IsFaultInCode (bytes : List ℕ) (fault : WalkFault) : Type 0 where
  pub head : Head
  pub is_pool : IsPoolOf bytes head
  pub ranges : List (ℕ × ℕ)
  pub codes : AreCodes bytes ranges
  pub first : IsFaultOfCodes head.entries bytes ranges fault

-- The first fault of a class file: that of its `Code` attributes before one in a code.
abbrev pub IsUseFault : List ℕ → WalkFault → Type 0
IsUseFault bytes fault = IsCodeFault bytes fault ⊎ IsFaultInCode bytes fault

-- What is known of instructions: one list tiles a code, or it has one first fault.
pub record OneWalk : Type 0 where
  pub one_list : (start : ℕ) (code : List ℕ) (list other : List Instr) → AreInstructions start code list → AreInstructions start code other → list ≡ other
  pub one_fault : (start : ℕ) (code : List ℕ) (fault other : WalkFault) → IsFirstFault start code fault → IsFirstFault start code other → fault ≡ other
  pub not_both : (start : ℕ) (code : List ℕ) (list : List Instr) (fault : WalkFault) → AreInstructions start code list → ¬ (IsFirstFault start code fault)
