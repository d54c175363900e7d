-- What one change does to the state of an index.
use Rattle.std.specs.Prelude.{◌≡◌, ◌≤◌, ◌+◌, ℕ, List, ◌++◌, map}
use Rattle.std.specs.Option.{option_or}
use Rattle.known_classes.specs.declared.summary.ClassSummary.{ClassSummary}
use Rattle.decl_index.specs.declared.change.ChangeFault.{ChangeFault}
use Rattle.decl_index.specs.declared.weights.Weights.{Weights}
use Rattle.decl_index.specs.History.{Name, State, Rises, remove, put, counted, count_at, CountsRise}
use Rattle.decl_index.specs.Refusals.{IsFaultOf, IsSound}
use Rattle.decl_index.specs.Places.{Leaves}

-- A publication makes the second state of the first.
pub record IsPublished (puts : List ClassSummary) (removes : List Name) (more : List (Name × ℕ)) (old new : State) : Type 0 where
  pub classes : Leaves (map remove removes ++ map put puts) old.classes new.classes
  pub counts : (key : Name) → count_at new.counts key ≡ option_or (counted key more) (count_at old.counts key)
  pub keys : CountsRise new.counts
  pub weights : new.weights ≡ old.weights
  pub number : new.number ≡ old.number + 1
  pub sound : IsSound new.classes

-- The classes that a publication would leave are refused.
pub record IsPublishFault (puts : List ClassSummary) (removes : List Name) (old : State) (why : ChangeFault) : Type 0 where
  pub left : List ClassSummary
  pub classes : Leaves (map remove removes ++ map put puts) old.classes left
  pub fault : IsFaultOf left why

-- A change that keeps the classes and the counts, and leaves these weights.
pub record IsKept (left : Weights) (old new : State) : Type 0 where
  pub rises : Rises new.classes
  pub classes : new.classes ≡ old.classes
  pub counts : new.counts ≡ old.counts
  pub weights : new.weights ≡ left
  pub number : new.number ≡ old.number + 1

-- A withdrawal keeps the classes, the counts and the weights.
pub record IsWithdrawn (through : ℕ) (old new : State) : Type 0 where
  pub kept : IsKept old.weights old new
  pub low : through ≤ old.number
