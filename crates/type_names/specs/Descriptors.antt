-- The one descriptor of an erased type and of a method's types (JVMS 4.3).
use Rattle.std.specs.Prelude.{◌≡◌, ℕ, true, List, [], ◌∷◌, ◌++◌, replicate, Option, Some, None, ⊤}
use Rattle.std.specs.List.{flat_map, AllByRecursion}
use Rattle.type_names.specs.declared.kinds.Base.{Base}
use Rattle.type_names.specs.declared.kinds.Base.TheVariants.{Byte, Char, Double, Float, Int, Long, Short, Boolean, Class}
use Rattle.type_names.specs.declared.kinds.Erased.{Erased}
use Rattle.type_names.specs.declared.kinds.MethodKind.{MethodKind}
use Rattle.type_names.specs.Names.{is_internal}

-- The letter of a primitive type, or `L`, the name and `;` of a class.
abbrev pub base : Base → List ℕ
base Byte = 66 ∷ []
base Char = 67 ∷ []
base Double = 68 ∷ []
base Float = 70 ∷ []
base Int = 73 ∷ []
base Long = 74 ∷ []
base Short = 83 ∷ []
base Boolean = 90 ∷ []
base (Class name) = 76 ∷ (name ++ 59 ∷ [])

-- The name, where the base is a class.
abbrev pub name_of : Base → Option (List ℕ)
name_of (Class name) = Some name
name_of _ = None

-- A class has an internal name.
abbrev pub IsBase : Base → Type 0
IsBase (Class name) = is_internal true name ≡ true
IsBase _ = ⊤

-- A `[` for each dimension, and then the base (JVMS 4.3.2).
abbrev pub field : Erased → List ℕ
field kind = replicate kind.dims 91 ++ base kind.base

abbrev pub IsField : Erased → Type 0
IsField kind = IsBase kind.base

-- `V`, or the type of the result.
abbrev pub outcome : Option Erased → List ℕ
outcome None = 86 ∷ []
outcome (Some kind) = field kind

abbrev pub IsOutcome : Option Erased → Type 0
IsOutcome None = ⊤
IsOutcome (Some kind) = IsField kind

-- The parameters in brackets, and then the result (JVMS 4.3.3).
abbrev pub method : MethodKind → List ℕ
method kind = 40 ∷ (flat_map field kind.params ++ (41 ∷ outcome kind.result))

pub record IsMethod (kind : MethodKind) : Type 0 where
  pub each_param : AllByRecursion IsField kind.params
  pub outcome_fits : IsOutcome kind.result
