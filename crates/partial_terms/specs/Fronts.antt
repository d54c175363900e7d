-- Partial terms: fronts of prefix codes.
use Rattle.std.specs.Prelude.{◌≡◌, ℕ, ◌≤◌, Bool, true, false, ◌&&◌, ◌==◌, nat_le, List, [], ◌∷◌, ◌++◌, Option, Some, None}
use Rattle.terms.specs.declared.parts.Parts.{Parts}
use Rattle.terms.specs.Place.{Place}
use Rattle.terms.specs.Reading.{Reading, read}
use Rattle.partial_terms.specs.Leasts.{key}
use Rattle.terms.specs.Count.{once_if, count}

-- the one list begins the other
abbrev pub begins : List ℕ → List ℕ → Bool
begins [] c = true
begins (x ∷ f) [] = false
begins (x ∷ f) (y ∷ c) = (x == y) && begins f c

-- what a front says: the weight so far and the open places
unfoldable pub reading : Parts → Place → List ℕ → Option Reading
reading g root f = read g 0 (root ∷ []) f

-- a partial term under its key
pub record IsItem (g : Parts) (limit : ℕ) (least : Place → ℕ) (root : Place) (k : ℕ) (f : List ℕ) : Type 0 where
  pub at : Reading
  pub is : reading g root f ≡ Some at
  pub keyed : k ≡ key least at
  pub within : k ≤ limit

abbrev pub key_within : ℕ → (Place → ℕ) → Option Reading → Bool
key_within limit least None = false
key_within limit least (Some r) = nat_le (key least r) limit

-- the numbers that may follow the front, each once
abbrev pub IsGrowth : Parts → ℕ → (Place → ℕ) → Place → List ℕ → List ℕ → Type 0
IsGrowth g limit least root f ns = (n : ℕ) → count (λ m. m == n) ns ≡ once_if (key_within limit least (reading g root (f ++ n ∷ [])))

abbrev pub same : List ℕ → List ℕ → Bool
same [] [] = true
same (x ∷ a) (y ∷ b) = (x == y) && same a b
same _ _ = false
