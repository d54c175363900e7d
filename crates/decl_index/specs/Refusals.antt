-- When a change is refused.
use Rattle.std.specs.Prelude.{◌≡◌, ◌≢◌, ◌<◌, ◌≤◌, ◌+◌, ◌⊎◌, ℕ, List, [], ◌∷◌, ◌++◌, length, sum_by, Option, Some, None, Contains}
use Rattle.std.specs.declared.cmp.Ordering.TheVariants.{Less}
use Rattle.graphs.specs.Paths.{Leads}
use Rattle.type_names.specs.Names.{object_name}
use Rattle.known_classes.specs.declared.summary.ClassSummary.{ClassSummary}
use Rattle.known_classes.specs.declared.summary.MethodSummary.{MethodSummary}
use Rattle.known_classes.specs.Known.{class_named, outer_in}
use Rattle.decl_index.specs.declared.change.Change.{Change}
use Rattle.decl_index.specs.declared.change.Change.TheVariants.{Publish, Withdraw, SetWeights}
use Rattle.decl_index.specs.declared.change.ChangeFault.{ChangeFault}
use Rattle.decl_index.specs.declared.change.ChangeFault.TheVariants.{Cyclic, Full, TooHigh, JournalFull, NestCycle, OutOfMemory}
use Rattle.decl_index.specs.History.{Name, order, AreClasses}

-- The supers of a class.
abbrev pub supers_of : ClassSummary → List Name
supers_of c = c.supers

-- What stands there, as a list.
abbrev pub at_most_one : Option Name → List Name
at_most_one None = []
at_most_one (Some n) = n ∷ []

-- The class around a class, where it has one.
abbrev pub outers_of : ClassSummary → List Name
outers_of c = at_most_one (outer_in c.nesting)

-- One step: from the name of a known class to a name that the class gives.
pub record Steps (to : ClassSummary → List Name) (cs : List ClassSummary) (a b : Name) : Type 0 where
  pub class : ClassSummary
  pub known : class_named cs a ≡ Some class
  pub leads : Contains (to class) b

-- Steps lead from the class of this name back to it.
abbrev pub ReachesItself : (ClassSummary → List Name) → List ClassSummary → Name → Type 0
ReachesItself to cs n = Leads (Steps to cs) n n

-- The least name but one that reaches itself.
pub record IsLeastNamedCycle (to : ClassSummary → List Name) (but : Option Name) (cs : List ClassSummary) (n : Name) : Type 0 where
  pub counts : Some n ≢ but
  pub cycle : ReachesItself to cs n
  pub least : (m : Name) → order m n ≡ Less → Some m ≢ but → ReachesItself to cs m → ⊥

-- No name but one reaches itself.
pub record HasNoCycle (to : ClassSummary → List Name) (but : Option Name) (cs : List ClassSummary) : Type 0 where
  pub none : (n : Name) → Some n ≢ but → ReachesItself to cs n → ⊥

-- A method counts as 1 and its parameters.
abbrev pub method_parts : MethodSummary → ℕ
method_parts m = 1 + length m.params

-- The parts of a class: 1, its supers, and for each member 1 and its parameters.
abbrev pub parts_of : ClassSummary → ℕ
parts_of c = 1 + length c.supers + length c.fields + sum_by method_parts c.methods

-- The parts of all classes.
abbrev pub parts_in : List ClassSummary → ℕ
parts_in cs = sum_by parts_of cs

-- The most parts of an index.
abbrev pub most_parts : ℕ
most_parts = 16777215

-- The classes may not be published for this fault: a cycle of supers comes first, then one of outer classes, then too
-- many parts. Each cycle is named by its least name; java/lang/Object may reach itself by supers.
abbrev pub IsFaultOf : List ClassSummary → ChangeFault → Type 0
IsFaultOf cs (Cyclic n) = IsLeastNamedCycle supers_of (Some object_name) cs n
IsFaultOf cs (NestCycle n) = HasNoCycle supers_of (Some object_name) cs × IsLeastNamedCycle outers_of None cs n
IsFaultOf cs (Full n) = HasNoCycle supers_of (Some object_name) cs × HasNoCycle outers_of None cs × (n ≡ parts_in cs) × (most_parts < n)
IsFaultOf cs (TooHigh n) = ⊥
IsFaultOf cs JournalFull = ⊥
IsFaultOf cs OutOfMemory = ⊥

-- The classes may be published.
pub record IsSound (cs : List ClassSummary) : Type 0 where
  pub supers : HasNoCycle supers_of (Some object_name) cs
  pub outers : HasNoCycle outers_of None cs
  pub parts : parts_in cs ≤ most_parts

-- The classes that the history leaves have this fault.
pub record IsFaultAfter (history : List Change) (why : ChangeFault) : Type 0 where
  pub left : List ClassSummary
  pub classes : AreClasses history left
  pub fault : IsFaultOf left why

-- The withdrawal of versions through m is refused where no change has the number m yet.
abbrev pub IsTooHigh : ℕ → ℕ → ChangeFault → Type 0
IsTooHigh number m (TooHigh n) = (n ≡ m) × (number + 1 ≤ m)
IsTooHigh number m (Cyclic n) = ⊥
IsTooHigh number m (NestCycle n) = ⊥
IsTooHigh number m (Full n) = ⊥
IsTooHigh number m JournalFull = ⊥
IsTooHigh number m OutOfMemory = ⊥

-- The change is refused after the history for what it would leave, with this fault. A setting of weights never is.
abbrev pub RefusesFor : List Change → Change → ChangeFault → Type 0
RefusesFor history (Publish puts removes counts) fault = IsFaultAfter (history ++ Publish puts removes counts ∷ []) fault
RefusesFor history (Withdraw m) fault = IsTooHigh (length history) m fault
RefusesFor history (SetWeights w) fault = ⊥

-- The most changes of a history.
abbrev pub most_changes : ℕ
most_changes = 100000

-- The change is refused after the history with this fault: where the history is full that comes first.
abbrev pub Refuses : List Change → Change → ChangeFault → Type 0
Refuses history change fault = ((most_changes ≤ length history) × (fault ≡ JournalFull)) ⊎ ((length history < most_changes) × RefusesFor history change fault)

-- The number of a fault; want of memory has none.
abbrev pub fault_number : ChangeFault → Option ℕ
fault_number (Cyclic name) = Some 1
fault_number (Full parts) = Some 2
fault_number (TooHigh through) = Some 3
fault_number JournalFull = Some 4
fault_number (NestCycle name) = Some 5
fault_number OutOfMemory = None
