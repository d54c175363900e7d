-- The class of the least name among those that pass a test.
use Rattle.std.specs.Prelude.{◌≡◌, ◌≤◌, ℕ, Bool, true, false, List, slice_get, Option, Some, None}
use Rattle.std.specs.Ordering.{nat_cmp, is_lt}
use Rattle.std.specs.Cmp.Lexicographic.{slice_cmp}
use Rattle.known_classes.specs.declared.summary.ClassSummary.{ClassSummary}

pub record IsLeastOf (test : ClassSummary → Bool) (cs : List ClassSummary) (c : ClassSummary) : Type 0 where
  pub place : ℕ
  pub there : slice_get cs place ≡ Some c
  pub passes : test c ≡ true
  pub least : (j : ℕ) (d : ClassSummary) → slice_get cs j ≡ Some d → test d ≡ true → is_lt (slice_cmp nat_cmp d.name c.name) ≡ false

-- The answer is that class, and none where no class passes.
abbrev pub IsLeast : (ClassSummary → Bool) → List ClassSummary → Option ClassSummary → Type 0
IsLeast test cs None = (j : ℕ) (d : ClassSummary) → slice_get cs j ≡ Some d → test d ≡ false
IsLeast test cs (Some c) = IsLeastOf test cs c

-- Of the classes from a place on that pass the test, the one of the least name stands at the place that is
-- answered; None where none passes.
pub record IsLeastFrom (test : ClassSummary → Bool) (cs : List ClassSummary) (left : ℕ) (r : Option ℕ) : Type 0 where
  pub sound : (i : ℕ) → r ≡ Some i → (c : ClassSummary) × (slice_get cs i ≡ Some c) × (test c ≡ true) × (left ≤ i)
  pub least : (j : ℕ) (d : ClassSummary) → left ≤ j → slice_get cs j ≡ Some d → test d ≡ true → (i : ℕ) × (r ≡ Some i) × ((c : ClassSummary) → slice_get cs i ≡ Some c → is_lt (slice_cmp nat_cmp d.name c.name) ≡ false)
