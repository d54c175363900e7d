-- The names that occur among the classes, each at a place, and the ancestors of each as places.
use Rattle.graphs.specs.Paths.{Leads}
use Rattle.std.specs.Prelude.{◌≡◌, ℕ, ◌≤◌, ◌<◌, List, [], length, map, slice_index, slice_get, Some, Contains}
use Rattle.std.specs.List.{filter_map}
use Rattle.graphs.specs.Graph.{edges, IsForward, AreAncestors}
use Rattle.known_classes.specs.Known.{KnownClasses}
use Rattle.name_places.specs.Places.{place_of, IsPlaced}
use Rattle.known_classes.specs.declared.summary.ClassSummary.{ClassSummary}
use Rattle.type_names.specs.Names.{object_name}
use Rattle.subtyping.specs.Steps.{supers_of, IsSuperStep}

-- Names, and for each the places of its ancestors, in rising order.
pub record Ancestry : Type 0 where
  pub names : List (List ℕ)
  pub rows : List (List ℕ)

-- b is among the ancestors of a.
pub record Stands (ancestry : Ancestry) (a b : List ℕ) : Type 0 where
  pub low : ℕ
  pub high : ℕ
  pub from : place_of ancestry.names a ≡ Some low
  pub to : place_of ancestry.names b ≡ Some high
  pub among : Contains (edges ancestry.rows low) high

-- The numbers rise.
abbrev pub Rises : List ℕ → Type 0
Rises row = (i j : ℕ) → i ≤ j → j < length row → slice_index row i ≤ slice_index row j

-- Each row rises.
abbrev pub AllRise : List (List ℕ) → Type 0
AllRise rows = (i : ℕ) → Rises (edges rows i)

-- The ancestors of each class are those to which steps to supers lead.
pub record IsAncestry (known : KnownClasses) (ancestry : Ancestry) : Type 0 where
  pub rises : AllRise ancestry.rows
  pub sound : (a b : List ℕ) → Stands ancestry a b → Leads (IsSuperStep known) a b
  pub complete : (a b : List ℕ) → Leads (IsSuperStep known) a b → Stands ancestry a b

-- The class and its supers have places.
pub record IsListed (names : List (List ℕ)) (class : ClassSummary) : Type 0 where
  pub own : IsPlaced names class.name
  pub supers : (b : List ℕ) → Contains class.supers b → IsPlaced names b

-- The places of the supers of a class.
abbrev pub row_of : KnownClasses → List (List ℕ) → List ℕ → List ℕ
row_of known names a = filter_map (place_of names) (supers_of known a)

-- From each name, the places of its supers.
abbrev pub graph_of : KnownClasses → List (List ℕ) → List (List ℕ)
graph_of known names = map (row_of known names) names

-- Each class and its supers have places.
abbrev pub AreListed : KnownClasses → List (List ℕ) → Type 0
AreListed known names = (i : ℕ) (c : ClassSummary) → slice_get known i ≡ Some c → IsListed names c

-- Of the graph, the edges that don't lie on cycles and don't come from Object.
pub record IsWithout (names graph rows : List (List ℕ)) : Type 0 where
  pub kept : List (List ℕ)
  pub forward : IsForward graph kept
  pub long : length rows ≡ length graph
  pub others : (i : ℕ) → (place_of names object_name ≡ Some i → ⊥) → edges rows i ≡ edges kept i
  pub none : (i : ℕ) → place_of names object_name ≡ Some i → edges rows i ≡ []

-- For each node its ancestors, in rising order.
pub record AreRows (graph rows : List (List ℕ)) : Type 0 where
  pub each : (i : ℕ) → AreAncestors graph i (edges rows i)
  pub rises : AllRise rows
