-- Where an item goes among sorted ones.
use Rattle.std.specs.Prelude.{◌≡◌, ℕ, ◌≤◌, List, [], ◌∷◌, length, insert, Option, Some, None}
use Rattle.std.specs.List.{AllByRecursion}
use Rattle.std.specs.Ordering.{nat_cmp}
use Rattle.std.specs.Cmp.Lexicographic.{slice_cmp}
use Rattle.std.specs.declared.cmp.Ordering.TheVariants.{Less}
use Rattle.offers.specs.Scenes.{put}

-- The list with the item at the place, and the list itself where there is none.
abbrev pub with_at : {A : Type 0} → List A → A → Option ℕ → List A
with_at xs x None = xs
with_at xs x (Some i) = insert xs i x

abbrev pub IsWithin : {A : Type 0} → List A → Option ℕ → Type 0
IsWithin xs None = Unit {0}
IsWithin xs (Some i) = i ≤ length xs

-- Each item of this key goes to the place, or nowhere where one of the key is there.
pub record IsPlace {A : Type 0} (text : A → List ℕ) (key : List ℕ) (xs : List A) (place : Option ℕ) : Type 0 where
  pub within : IsWithin xs place
  pub goes : (x : A) → text x ≡ key → put text x xs ≡ with_at xs x place

-- The text of the first stands before that of the second.
abbrev pub IsBefore : {A : Type 0} → (A → List ℕ) → A → A → Type 0
IsBefore text x y = slice_cmp nat_cmp (text x) (text y) ≡ Less

-- The texts of the elements rise strictly.
unfoldable pub Rises : {A : Type 0} → (A → List ℕ) → List A → Type 0
Rises text [] = Unit {0}
Rises text (x ∷ xs) = AllByRecursion (IsBefore text x) xs × Rises text xs
