-- What a list of changes leaves: for each name, and for each key of a count, the last entry that speaks of it decides.
use Rattle.std.specs.Prelude.{◌≡◌, ℕ, suc, if◌then◌else◌, List, [], ◌∷◌, ◌++◌, length, map, bytes_eq, nat_le, unwrap_or, option_map, Option, Some, None}
use Rattle.std.specs.Ordering.{nat_cmp}
use Rattle.std.specs.declared.cmp.Ordering.{Ordering}
use Rattle.std.specs.declared.cmp.Ordering.TheVariants.{Less}
use Rattle.std.specs.Cmp.Lexicographic.{slice_cmp}
use Rattle.std.specs.List.{flat_map, AllByRecursion}
use Rattle.std.specs.Option.{option_or}
use Rattle.known_classes.specs.declared.summary.ClassSummary.{ClassSummary}
use Rattle.known_classes.specs.Known.{class_named}
use Rattle.decl_index.specs.declared.change.Change.{Change}
use Rattle.decl_index.specs.declared.change.Change.TheVariants.{Publish, Withdraw, SetWeights}
use Rattle.decl_index.specs.declared.weights.Weights.{Weights}
use Rattle.decl_index.specs.Weighing.{AreWeights, usual}

-- A name by its bytes.
abbrev pub Name : Type 0
Name = List ℕ

-- The order of names by their bytes.
unfoldable pub order : Name → Name → Ordering
order m n = slice_cmp nat_cmp m n

-- An entry of a publication: it takes the class of a name out, or puts a class in.
pub data Edit : Type 0 where
  remove : Name → Edit
  put : ClassSummary → Edit

-- Within one publication the removes come before the puts. Other changes change no class.
abbrev pub edits_of : Change → List Edit
edits_of (Publish puts removes counts) = map remove removes ++ map put puts
edits_of (Withdraw m) = []
edits_of (SetWeights w) = []

-- What an entry says of a name: nothing, that it has no class, or its class.
abbrev pub said : Name → Edit → Option (Option ClassSummary)
said n (remove m) = if bytes_eq n m then Some None else None
said n (put c) = if bytes_eq n c.name then Some (Some c) else None

-- What the entries say of a name: the last that speaks of it decides.
unfoldable pub decided : Name → List Edit → Option (Option ClassSummary)
decided n [] = None
decided n (e ∷ es) = option_or (decided n es) (said n e)

-- A name of which nothing is said has no class.
abbrev pub told : Option (Option ClassSummary) → Option ClassSummary
told (Some c) = c
told None = None

-- The class of a name after the changes.
abbrev pub class_in : List Change → Name → Option ClassSummary
class_in history n = told (decided n (flat_map edits_of history))

-- The counts of a change; those of a publication come after its puts.
abbrev pub counts_of : Change → List (Name × ℕ)
counts_of (Publish puts removes counts) = counts
counts_of (Withdraw m) = []
counts_of (SetWeights w) = []

-- The count of a key: the last one given decides.
unfoldable pub counted : Name → List (Name × ℕ) → Option ℕ
counted key [] = None
counted key (p ∷ ps) = option_or (counted key ps) (if bytes_eq key p.0 then Some p.1 else None)

-- The count of a key after the changes, 0 where none was given.
abbrev pub use_in : List Change → Name → ℕ
use_in history key = unwrap_or (counted key (flat_map counts_of history)) 0

-- The weights that a change sets, where it sets any.
abbrev pub weights_of : Change → Option Weights
weights_of (Publish puts removes counts) = None
weights_of (Withdraw m) = None
weights_of (SetWeights w) = Some w

-- The weights that changes set: the last ones decide.
unfoldable pub weights_set : List Change → Option Weights
weights_set [] = None
weights_set (c ∷ history) = option_or (weights_set history) (weights_of c)

-- The weights after the changes, the usual ones where none were set.
abbrev pub weights_in : List Change → Weights
weights_in history = unwrap_or (weights_set history) usual

-- What a change sets is within the ranges of weights.
abbrev pub KeepsRanges : Change → Type 0
KeepsRanges (Publish puts removes counts) = Unit {0}
KeepsRanges (Withdraw m) = Unit {0}
KeepsRanges (SetWeights w) = AreWeights w

-- Strictly in rising order of names.
unfoldable pub Rises : List ClassSummary → Type 0
Rises [] = Unit {0}
Rises (c ∷ cs) = AllByRecursion (λ d. order c.name d.name ≡ Less) cs × Rises cs

-- The classes in rising order of names are those of each name after the changes.
pub record AreClasses (history : List Change) (cs : List ClassSummary) : Type 0 where
  pub rises : Rises cs
  pub named : (n : Name) → class_named cs n ≡ class_in history n

-- The count of a key in a list, where it has one.
unfoldable pub count_at : List (Name × ℕ) → Name → Option ℕ
count_at [] key = None
count_at (p ∷ ps) key = if bytes_eq key p.0 then Some p.1 else count_at ps key

-- Strictly in rising order of keys.
unfoldable pub CountsRise : List (Name × ℕ) → Type 0
CountsRise [] = Unit {0}
CountsRise (p ∷ ps) = AllByRecursion (λ q. order p.0 q.0 ≡ Less) ps × CountsRise ps

-- The counts in rising order of keys are those of each key after the changes; one that was given as 0 is there.
pub record AreCounts (history : List Change) (counts : List (Name × ℕ)) : Type 0 where
  pub rises : CountsRise counts
  pub keyed : (key : Name) → count_at counts key ≡ counted key (flat_map counts_of history)

-- The count of a key in a list, 0 where it has none.
unfoldable pub use_of : List (Name × ℕ) → Name → ℕ
use_of [] key = 0
use_of (p ∷ ps) key = if bytes_eq key p.0 then p.1 else use_of ps key

-- Classes in rising order of names, counts in rising order of keys, weights, and the number of changes.
pub record State : Type 0 where
  pub classes : List ClassSummary
  pub counts : List (Name × ℕ)
  pub weights : Weights
  pub number : ℕ

-- The state is what the changes leave.
pub record IsState (history : List Change) (s : State) : Type 0 where
  pub classes : AreClasses history s.classes
  pub counts : AreCounts history s.counts
  pub weights : s.weights ≡ weights_in history
  pub number : s.number ≡ length history

-- The number of the first change that withdraws version n, where there is one. The first change has the number 1.
unfoldable pub first_withdrawal : List Change → ℕ → Option ℕ
first_withdrawal [] n = None
first_withdrawal (Publish puts removes counts ∷ history) n = option_map suc (first_withdrawal history n)
first_withdrawal (Withdraw m ∷ history) n = if nat_le n m then Some 1 else option_map suc (first_withdrawal history n)
first_withdrawal (SetWeights w ∷ history) n = option_map suc (first_withdrawal history n)
