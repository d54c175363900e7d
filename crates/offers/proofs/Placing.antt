-- The places of types are as many as the types, and each is that of its class.
use Rattle.std.proofs.Common.{◌≡◌, ◌∙◌, ap, arith, ℕ, zero, suc, ◌<◌, List, [], ◌∷◌, length, map, get_or, Option, Some}
use Rattle.std.specs.Prelude.{slice_get}
use Rattle.type_names.specs.declared.kinds.Erased.{Erased}
use Rattle.subtyping.specs.Asked.{class_place}
use Rattle.offers.specs.Views.{Outlook}
use Rattle.offers.specs.Placing.{ArePlaces, head_in, AreHeads}

as-long : {A B : Type 0} (f : A → B) (xs : List A) → length (map f xs) ≡ length xs
as-long f [] = omega arith
as-long f (x ∷ xs) = let e = as-long f xs in omega (arith, e)

mapped : {A B : Type 0} (f : A → B) (xs : List A) (i : ℕ) (x : A) (d : B) → slice_get xs i ≡ Some x → get_or (map f xs) i d ≡ f x
mapped f [] i x d e = absurd cc
mapped f (y ∷ ys) zero x d e = let k : y ≡ x = cc in ap f k
mapped f (y ∷ ys) (suc i) x d e = mapped f ys i x d e

pub places-long : (o : Outlook) (types : List Erased) (places : List (Option ℕ)) (i : ℕ) → ArePlaces o types places → i < length types → i < length places
places-long o types places i h l = omega (arith, ap length h, as-long (λ (t : Erased). class_place o.ancestry.names t.base) types)

pub place-at : (o : Outlook) (types : List Erased) (places : List (Option ℕ)) (i : ℕ) (kind : Erased) (place : Option ℕ) → ArePlaces o types places → slice_get types i ≡ Some kind → place ≡ get_or places i place → place ≡ class_place o.ancestry.names kind.base
place-at o types places i kind place h s e = e ∙ ap (λ (ps : List (Option ℕ)). get_or ps i place) h ∙ mapped (λ (t : Erased). class_place o.ancestry.names t.base) types i kind place s

pub heads-long : (o : Outlook) (types : List Erased) (heads : List (Option ℕ)) (i : ℕ) → AreHeads o types heads → i < length types → i < length heads
heads-long o types heads i h l = omega (arith, ap length h, as-long (head_in o) types)

pub head-at : (o : Outlook) (types : List Erased) (heads : List (Option ℕ)) (i : ℕ) (kind : Erased) (head : Option ℕ) → AreHeads o types heads → slice_get types i ≡ Some kind → head ≡ get_or heads i head → head ≡ head_in o kind
head-at o types heads i kind head h s e = e ∙ ap (λ (ps : List (Option ℕ)). get_or ps i head) h ∙ mapped (head_in o) types i kind head s
