-- What is known of histories, their states and the changes that they refuse.
use Rattle.std.specs.Prelude.{◌≡◌, List}
use Rattle.std.specs.List.{AllByRecursion}
use Rattle.known_classes.specs.declared.summary.ClassSummary.{ClassSummary}
use Rattle.decl_index.specs.declared.change.Change.{Change}
use Rattle.decl_index.specs.declared.change.ChangeFault.{ChangeFault}
use Rattle.decl_index.specs.History.{Name, State, IsState, AreClasses, use_of, use_in, KeepsRanges, weights_in}
use Rattle.decl_index.specs.Weighing.{AreWeights}
use Rattle.decl_index.specs.Refusals.{Refuses}

-- Each history has a state.
abbrev pub HasState : Type 0
HasState = (history : List Change) → (state : State) × IsState history state

-- Two states of one history are equal.
abbrev pub OneState : Type 0
OneState = (history : List Change) (s t : State) → IsState history s → IsState history t → s ≡ t

-- Two lists of the classes of one history are equal.
abbrev pub OneList : Type 0
OneList = (history : List Change) (cs ds : List ClassSummary) → AreClasses history cs → AreClasses history ds → cs ≡ ds

-- A change is refused with one fault at most.
abbrev pub OneRefusal : Type 0
OneRefusal = (history : List Change) (change : Change) (f g : ChangeFault) → Refuses history change f → Refuses history change g → f ≡ g

-- The count of a key in a state is that of the history, 0 where none was given.
abbrev pub UsesOfState : Type 0
UsesOfState = (history : List Change) (state : State) → IsState history state → (key : Name) → use_of state.counts key ≡ use_in history key

-- The weights after changes of which each keeps the ranges lie in them.
abbrev pub WeightsInRange : Type 0
WeightsInRange = (history : List Change) → AllByRecursion KeepsRanges history → AreWeights (weights_in history)
