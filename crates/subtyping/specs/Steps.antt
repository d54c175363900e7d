-- Direct steps of the strict subtype relation, after JLS 4.10 and 5.1.2, and its paths.
use Rattle.graphs.specs.Paths.{Leads}
use Rattle.std.specs.Prelude.{◌≡◌, ◌≢◌, ℕ, zero, suc, List, [], ◌∷◌, ◌⊎◌, ⊤, Option, Some, None, Contains}
use lib.Chars.{codes}
use Rattle.type_names.specs.declared.kinds.Base.{Base}
use Rattle.type_names.specs.declared.kinds.Base.TheVariants.{Byte, Char, Double, Float, Int, Long, Short, Boolean, Class}
use Rattle.type_names.specs.declared.kinds.Erased.{Erased}
use Rattle.type_names.specs.Names.{object_name}
use Rattle.known_classes.specs.declared.summary.ClassSummary.{ClassSummary}
use Rattle.known_classes.specs.Known.{KnownClasses, class_named}

-- The interfaces above all arrays (JLS 4.10.3).
abbrev pub cloneable : List ℕ
cloneable = codes "java/lang/Cloneable"

abbrev pub serializable : List ℕ
serializable = codes "java/io/Serializable"

-- The supers that a class records.
abbrev pub supers_in : Option ClassSummary → List (List ℕ)
supers_in None = []
supers_in (Some c) = c.supers

-- The supers that are recorded for the class of this name, known themselves or not; none where it isn't known.
abbrev pub supers_of : KnownClasses → List ℕ → List (List ℕ)
supers_of known a = supers_in (class_named known a)

-- b is recorded as a super of a.
abbrev pub IsSuper : KnownClasses → List ℕ → List ℕ → Type 0
IsSuper known a b = Contains (supers_of known a) b

-- A class to one of its supers, except from Object, and except where that super reaches the class again by supers.
abbrev pub IsSuperStep : KnownClasses → List ℕ → List ℕ → Type 0
IsSuperStep known a b = (a ≢ object_name) × IsSuper known a b × (Leads (IsSuper known) b a → ⊥)

-- A class other than Object to one of its supers that does not lead back to it, or to Object.
abbrev pub IsClassStep : KnownClasses → List ℕ → List ℕ → Type 0
IsClassStep known a b = IsSuperStep known a b ⊎ ((a ≢ object_name) × (b ≡ object_name))

-- The primitive types to which this one widens (JLS 5.1.2).
abbrev pub wider : Base → List Base
wider Byte = Short ∷ Int ∷ Long ∷ Float ∷ Double ∷ []
wider Short = Int ∷ Long ∷ Float ∷ Double ∷ []
wider Char = Int ∷ Long ∷ Float ∷ Double ∷ []
wider Int = Long ∷ Float ∷ Double ∷ []
wider Long = Float ∷ Double ∷ []
wider Float = Double ∷ []
wider Double = []
wider Boolean = []
wider (Class name) = []

-- Between types without dimensions.
abbrev pub IsBaseStep : KnownClasses → Base → Base → Type 0
IsBaseStep known (Class a) (Class b) = IsClassStep known a b
IsBaseStep known p q = Contains (wider p) q

-- Classes and arrays are reference types.
abbrev pub IsReference : ℕ → Base → Type 0
IsReference (suc n) p = ⊤
IsReference zero (Class name) = ⊤
IsReference zero p = ⊥

-- The classes to which each array steps.
abbrev pub IsOfArrays : Base → Type 0
IsOfArrays q = Contains (Class object_name ∷ Class cloneable ∷ Class serializable ∷ []) q

-- From n dimensions of p to m dimensions of q: an array to the classes of arrays, and to an array of what its
-- elements step to, where these are of a reference type.
unfoldable pub IsStepAt : KnownClasses → ℕ → Base → ℕ → Base → Type 0
IsStepAt known zero p zero q = IsBaseStep known p q
IsStepAt known zero p (suc m) q = ⊥
IsStepAt known (suc n) p zero q = IsOfArrays q
IsStepAt known (suc n) p (suc m) q = IsReference n p × IsStepAt known n p m q

-- A direct step between types.
abbrev pub IsStep : KnownClasses → Erased → Erased → Type 0
IsStep known a b = IsStepAt known a.dims a.base b.dims b.base

-- One direct step or more lead from a to b.
abbrev pub IsStrictSubtype : KnownClasses → Erased → Erased → Type 0
IsStrictSubtype known a b = Leads (IsStep known) a b
