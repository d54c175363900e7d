-- The places of names in a list.
use Rattle.std.specs.Prelude.{◌≡◌, ℕ, suc, if◌then◌else◌, List, [], ◌∷◌, bytes_eq, option_map, Option, Some, None}

-- The first place of a name in a list of names, from 0.
unfoldable pub place_of : List (List ℕ) → List ℕ → Option ℕ
place_of [] name = None
place_of (x ∷ xs) name = if bytes_eq x name then Some 0 else option_map suc (place_of xs name)

-- The name has a place.
abbrev pub IsPlaced : List (List ℕ) → List ℕ → Type 0
IsPlaced names name = (i : ℕ) × (place_of names name ≡ Some i)

-- A name that had a place has it still.
abbrev pub IsGrown : List (List ℕ) → List (List ℕ) → Type 0
IsGrown old new = (name : List ℕ) (i : ℕ) → place_of old name ≡ Some i → place_of new name ≡ Some i
