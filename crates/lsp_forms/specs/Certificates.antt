-- Certificates as JSON values: the rows of an item, and floors.
use Rattle.std.specs.Prelude.{ℕ, List, map, codes}
use Rattle.serde_json.specs.Data.{Data, array, object, no_items, item, no_members, member}
use Rattle.serde_json.specs.View.{items_of}
use Rattle.checker.specs.declared.row.Row.{Row}
use Rattle.checker.specs.declared.floor.Floor.{Floor}
use Rattle.lsp_forms.specs.Results.{whole_number}

-- A row: its code, its type and its weight.
abbrev pub row_answer : Row → Data
row_answer r = array (item (whole_number r.code) (item (whole_number r.result) (item (whole_number r.weight) no_items)))

-- The rows of an item, and its total.
abbrev pub rows_answer : List Row → ℕ → Data
rows_answer rows weight = object (member (codes "rows") (array (items_of (map row_answer rows))) (member (codes "weight") (whole_number weight) no_members))

-- A floor: the set of its state, how many lambdas are left, the goal, and the floor.
abbrev pub floor_answer : Floor → Data
floor_answer f = array (item (array (items_of (map whole_number f.set))) (item (whole_number f.left) (item (whole_number f.goal) (item (whole_number f.floor) no_items))))

-- Floors, and the first of them.
abbrev pub floors_answer : List Floor → ℕ → Data
floors_answer floors floor = object (member (codes "floor") (whole_number floor) (member (codes "rows") (array (items_of (map floor_answer floors))) no_members))
