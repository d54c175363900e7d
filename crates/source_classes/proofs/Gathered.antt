-- What the items of a list give, gathered in a row.
use Rattle.std.proofs.Common.{◌≡◌, ◌∙◌, ap, sym, ℕ, ◌+◌, ◌<◌, ◌≤◌, List, ◌++◌, length, take, take_all, get_or, flat_map}
use Rattle.known_classes.proofs.KeptItems.{gathered_more}

pub gathered_on : {A B : Type 0} (f : A → List B) (xs : List A) (i : ℕ) (d : A) (old new more : List B) → i < length xs → more ≡ f (get_or xs i d) → new ≡ old ++ more → old ≡ flat_map f (take i xs) → new ≡ flat_map f (take (i + 1) xs)
gathered_on f xs i d old new more l e n h =
    n ∙ ap (λ r. r ++ more) h ∙ ap (λ r. flat_map f (take i xs) ++ r) e ∙ sym (gathered_more f xs i d l)

pub gathered_end : {A B : Type 0} (f : A → List B) (xs : List A) (i : ℕ) (old : List B) → length xs ≤ i → old ≡ flat_map f (take i xs) → old ≡ flat_map f xs
gathered_end f xs i old l h = h ∙ ap (flat_map f) (take_all i xs l)
