-- Names given by classes, as rows of places.
use Rattle.std.specs.Prelude.{◌≡◌, ℕ, List, length, slice_get, Some, Contains}
use Rattle.known_classes.specs.declared.summary.ClassSummary.{ClassSummary}
use Rattle.graphs.specs.Graph.{edges}
use Rattle.decl_index.specs.History.{Name}

-- A place is in the row exactly where its class has one of the names.
pub record IsRow (cs : List ClassSummary) (names : List Name) (row : List ℕ) : Type 0 where
  pub sound : (b : ℕ) → Contains row b → (d : ClassSummary) × ((slice_get cs b ≡ Some d) × Contains names d.name)
  pub complete : (b : ℕ) (d : ClassSummary) → slice_get cs b ≡ Some d → Contains names d.name → Contains row b

-- From each class the places of the classes with the names that it gives.
pub record IsGraph (to : ClassSummary → List Name) (cs : List ClassSummary) (rows : List (List ℕ)) : Type 0 where
  pub size : length rows ≡ length cs
  pub row : (a : ℕ) (c : ClassSummary) → slice_get cs a ≡ Some c → IsRow cs (to c) (edges rows a)
