-- What is known of classes: a list of summaries, each name once, and the canonical names in it (JLS 6.7).
use Rattle.std.specs.Prelude.{◌≡◌, ℕ, zero, suc, ◌<◌, ◌==◌, if◌then◌else◌, Bool, true, false, List, [], ◌∷◌, ◌++◌, length, map, slice_get, bytes_eq, Option, Some, None}
use Rattle.std.specs.Ordering.{nat_cmp, is_lt}
use Rattle.std.specs.Cmp.Lexicographic.{slice_cmp}
use Rattle.known_classes.specs.declared.summary.Nesting.{Nesting}
use Rattle.known_classes.specs.declared.summary.ClassSummary.{ClassSummary}

-- Classes by their places.
abbrev pub KnownClasses : Type 0
KnownClasses = List ClassSummary

-- The class of this name.
unfoldable pub class_named : List ClassSummary → List ℕ → Option ClassSummary
class_named [] name = None
class_named (c ∷ cs) name = if bytes_eq name c.name then Some c else class_named cs name

-- No name stands at two places.
pub record HasEachOnce (classes : List ClassSummary) : Type 0 where
  pub once : (i j : ℕ) (c d : ClassSummary) → slice_get classes i ≡ Some c → slice_get classes j ≡ Some d → c.name ≡ d.name → i ≡ j

-- The answer is the place of this class, and none where there is no class.
abbrev pub IsPlaceOf : List ClassSummary → Option ClassSummary → Option ℕ → Type 0
IsPlaceOf classes class None = class ≡ None
IsPlaceOf classes class (Some i) = (i < length classes) × (class ≡ slice_get classes i)

abbrev pub outer_in : Option Nesting → Option (List ℕ)
outer_in None = None
outer_in (Some n) = n.outer

abbrev pub simple_in : Option Nesting → Option (List ℕ)
simple_in None = None
simple_in (Some n) = n.simple

abbrev pub nesting_at : Option ClassSummary → Option Nesting
nesting_at None = None
nesting_at (Some c) = c.nesting

-- The outer class of the class of this name, where that is known and has one.
abbrev pub outer_of : List ClassSummary → List ℕ → Option (List ℕ)
outer_of cs name = outer_in (nesting_at (class_named cs name))

-- Whether the class is among these outer classes, each taken from the one before, and at most n.
unfoldable pub comes_to : ℕ → List ClassSummary → List ℕ → Option (List ℕ) → Bool
comes_to zero cs name outer = false
comes_to (suc n) cs name None = false
comes_to (suc n) cs name (Some outer) = if bytes_eq name outer then true else comes_to n cs name (outer_of cs outer)

-- Whether a class reaches itself by outer classes. A way without a repetition isn't longer than the list.
abbrev pub cycles : List ClassSummary → List ℕ → Bool
cycles cs name = comes_to (length cs) cs name (outer_of cs name)

-- A name with `.` in place of `/`.
abbrev pub dotted : List ℕ → List ℕ
dotted name = map (λ b. if b == 47 then 46 else b) name

-- The name of the outer class, `.` and the simple name, where both are there.
abbrev pub nested_name : Option (List ℕ) → Option (List ℕ) → (List ℕ → List ℕ) → List ℕ → List ℕ
nested_name None simple of_outer own = own
nested_name (Some outer) None of_outer own = own
nested_name (Some outer) (Some simple) of_outer own = of_outer outer ++ 46 ∷ simple

-- The canonical name, by at most n outer classes.
unfoldable pub canonical_by : ℕ → List ClassSummary → List ℕ → List ℕ
canonical_by zero cs name = dotted name
canonical_by (suc n) cs name =
    if cycles cs name then dotted name
    else nested_name (outer_of cs name) (simple_in (nesting_at (class_named cs name))) (λ outer. canonical_by n cs outer) (dotted name)

-- The canonical name of the class of this name: that of its outer class, `.` and its simple name, where its
-- nesting has both; else its own name with `.` for `/`, and so where it isn't known or reaches itself by
-- outer classes (JLS 6.7).
abbrev pub canonical : List ClassSummary → List ℕ → List ℕ
canonical cs name = canonical_by (length cs) cs name

-- Of two classes, the one whose name is less by bytes.
abbrev pub lesser : ClassSummary → Option ClassSummary → ClassSummary
lesser c None = c
lesser c (Some d) = if is_lt (slice_cmp nat_cmp d.name c.name) then d else c

-- The class with this canonical name; of several, the one of the least name.
unfoldable pub class_by_canonical : List ClassSummary → List ClassSummary → List ℕ → Option ClassSummary
class_by_canonical all [] name = None
class_by_canonical all (c ∷ cs) name =
    if bytes_eq name (canonical all c.name) then Some (lesser c (class_by_canonical all cs name)) else class_by_canonical all cs name
