-- The declarations by their words.
use Rattle.std.specs.Prelude.{◌≡◌, ℕ, suc, List, [], ◌∷◌, map, cond, slice_index_or, Option, Some, None, bytes_eq}
use Rattle.name_places.specs.Places.{place_of}
use Rattle.terms.specs.declared.parts.Decl.{Decl}
use Rattle.terms.specs.declared.parts.Parts.{Parts}
use Rattle.java_resolve.specs.declared.index.Index.{Index}
use Rattle.java_resolve.specs.Keys.{key}

-- the numbers, counted from i, of the declarations with this word
unfoldable pub with_key : ℕ → List ℕ → List Decl → List ℕ
with_key i t [] = []
with_key i t (d ∷ ds) = cond (bytes_eq (key d.form) t) (i ∷ with_key (suc i) t ds) (with_key (suc i) t ds)

-- the list at the place of a word, or none
abbrev pub at_place : List (List ℕ) → Option ℕ → List ℕ
at_place lists None = []
at_place lists (Some k) = slice_index_or lists k []

-- what the index has for a word
abbrev pub bucket : Index → List ℕ → List ℕ
bucket x t = at_place (map (λ l. l.items) x.numbers.items) (place_of x.names t)

-- the index has the declarations of the environment
abbrev pub IsIndex : Parts → Index → Type 0
IsIndex g x = (t : List ℕ) → bucket x t ≡ with_key 0 t g.decls

-- the places of declarations' words among names
abbrev pub ArePlaces : List (List ℕ) → List Decl → List ℕ → Type 0
ArePlaces names [] [] = Unit {0}
ArePlaces names [] (n ∷ ns) = ⊥
ArePlaces names (d ∷ ds) [] = ⊥
ArePlaces names (d ∷ ds) (n ∷ ns) = (place_of names (key d.form) ≡ Some n) × ArePlaces names ds ns
