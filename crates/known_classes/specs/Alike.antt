-- When two lists of classes say the same of how classes stand in others (JVMS 4.7.6).
use Rattle.std.specs.Prelude.{◌≡◌, ℕ, ◌<◌, Bool, true, false, List, length, is_some, Option, Some}
use Rattle.known_classes.specs.declared.summary.ClassSummary.{ClassSummary}
use Rattle.known_classes.specs.Known.{class_named, nesting_at, outer_of, outer_in, simple_in, cycles}
use Rattle.known_classes.specs.Merging.{last_named}

-- The simple name of the class of this name, where that is known and has one.
abbrev pub simple_of : List ClassSummary → List ℕ → Option (List ℕ)
simple_of cs name = simple_in (nesting_at (class_named cs name))

-- The class of this name has one outer class and one simple name in both lists, or lacks them in both.
pub record StandsAlike (old new : List ClassSummary) (name : List ℕ) : Type 0 where
  pub outer : outer_of new name ≡ outer_of old name
  pub simple : simple_of new name ≡ simple_of old name

-- Names outside the set stand alike in both lists, and a class that is nested in one of the set is in it.
pub record IsNestedSet (old new : List ClassSummary) (touched : List ℕ → Bool) : Type 0 where
  pub same : (n : List ℕ) → touched n ≡ false → StandsAlike old new n
  pub closed : (n o : List ℕ) → outer_of old n ≡ Some o → touched o ≡ true → touched n ≡ true

-- Each extra class is nested in none, or in an extra class of a shorter name.
abbrev pub NestInwards : List ClassSummary → Type 0
NestInwards extra = (n o : List ℕ) → outer_in (nesting_at (last_named extra n)) ≡ Some o → (is_some (last_named extra o) ≡ true) × (length o < length n)

-- No class reaches itself by outer classes.
abbrev pub HasNoCycle : List ClassSummary → Type 0
HasNoCycle cs = (n : List ℕ) → cycles cs n ≡ false
