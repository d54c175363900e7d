-- Known classes with others added: of two classes of one name the one added last counts.
use Rattle.std.specs.Prelude.{◌≡◌, ℕ, ◌<◌, ◌+◌, ◌-◌, ◌^◌, if◌then◌else◌, List, [], ◌∷◌, ◌++◌, length, map, slice_get, bytes_eq, false, is_some, unwrap_or, Option, Some, None}
use Rattle.std.specs.Option.{option_or}
use Rattle.known_classes.specs.declared.summary.ClassSummary.{ClassSummary}
use Rattle.known_classes.specs.Known.{KnownClasses, class_named, outer_in, simple_in, IsPlaceOf}
use Rattle.known_classes.specs.Nested.{surrounds}

-- The last class of this name.
unfoldable pub last_named : List ClassSummary → List ℕ → Option ClassSummary
last_named [] name = None
last_named (c ∷ cs) name = option_or (last_named cs name) (if bytes_eq name c.name then Some c else None)

-- The last extra class of the class's name, else the class itself.
abbrev pub replaced : List ClassSummary → ClassSummary → ClassSummary
replaced extra c = unwrap_or (last_named extra c.name) c

-- The extra classes whose name stands neither among the base classes nor later among the extra ones.
unfoldable pub added : List ClassSummary → List ClassSummary → List ClassSummary
added base [] = []
added base (e ∷ es) = if is_some (class_named (base ++ es) e.name) then added base es else e ∷ added base es

-- The base classes in their places, each replaced by the last extra class of its name, and then the extra classes
-- whose name the base lacks, of each name the last.
unfoldable pub merged : List ClassSummary → List ClassSummary → KnownClasses
merged base extra = map (replaced extra) base ++ added base extra

-- The numbers are those of the added classes among the extra ones, and all places fit a 64-bit number.
pub record IsMerging (base extra : List ClassSummary) (numbers : List ℕ) : Type 0 where
  pub fits : length base + length numbers < 2 ^ 64
  pub each : map (slice_get extra) numbers ≡ map Some (added base extra)

-- The answer tells where this class stands, counted from the last class, and is none where there is no class.
abbrev pub IsPlaceFromEnd : List ClassSummary → Option ClassSummary → Option ℕ → Type 0
IsPlaceFromEnd classes class None = class ≡ None
IsPlaceFromEnd classes class (Some n) = (n < length classes) × (class ≡ slice_get classes (length classes - 1 - n))

-- The last extra classes by their names: for a name of the base the number of the last extra class of that name, for
-- another the place of that class among the added ones, counted from the last.
pub record IsTable (base extra part : List ClassSummary) (number : List ℕ → Option ℕ) : Type 0 where
  pub has : (name : List ℕ) → is_some (number name) ≡ is_some (class_named part name)
  pub kept : (name : List ℕ) (c : ClassSummary) → class_named base name ≡ Some c → IsPlaceOf extra (last_named part name) (number name)
  pub new : (name : List ℕ) → class_named base name ≡ None → IsPlaceFromEnd (added base part) (class_named (added base part) name) (number name)

-- The extra class has the outer class and the simple name of the base class of its name, or has a new name in which
-- no base class is nested.
pub record KeepsName (base : List ClassSummary) (e : ClassSummary) : Type 0 where
  pub old : (b : ClassSummary) → class_named base e.name ≡ Some b → (outer_in e.nesting ≡ outer_in b.nesting) × (simple_in e.nesting ≡ simple_in b.nesting)
  pub new : class_named base e.name ≡ None → surrounds base e.name ≡ false

-- Each extra class does.
abbrev pub KeepNames : List ClassSummary → List ClassSummary → Type 0
KeepNames base extra = (i : ℕ) (e : ClassSummary) → slice_get extra i ≡ Some e → KeepsName base e
