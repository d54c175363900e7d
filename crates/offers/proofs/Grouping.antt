-- How groups of places grow.
use Rattle.std.proofs.Common.{◌≡◌, ◌≢◌, ◌∙◌, sym, ap, subst, refl, arith, ℕ, zero, suc, ◌<◌, ◌%◌, ◌⊎◌, List, [], ◌∷◌, ◌++◌, length, map, get_or, set, inl, inr, Some}
use Rattle.std.specs.Prelude.{slice_get, slice_index_or, slice_set}
use Rattle.std.specs.List.{Contains}
use Rattle.std.proofs.lemmas.Bool.{cases_eq}
use Rattle.std.proofs.lemmas.List.{get_or-set_same, get_or-set_other, length-set, map-set}
use Rattle.std.proofs.lemmas.List.Elements.{Contains-push, Contains-append_left}
use Rattle.offers.specs.Grouping.{AreGroups}

pub no-place : (rows : List (List ℕ)) → AreGroups [] rows
no-place rows key i s = absurd (let h = s in cc)

-- a place of a list with one number more
last-or : (hashes : List ℕ) (hash key i : ℕ) → slice_get (hashes ++ hash ∷ []) i ≡ Some key → (slice_get hashes i ≡ Some key) ⊎ ((i ≡ length hashes) × (hash ≡ key))
last-or [] hash key zero s = inr (refl, cc)
last-or [] hash key (suc i) s = absurd (let h = s in cc)
last-or (x ∷ xs) hash key zero s = inl s
last-or (x ∷ xs) hash key (suc i) s = elim (last-or xs hash key i s) [ inl h ↦ inl h | inr h ↦ inr (ap suc h.0, h.1) ]

grown : (hashes : List ℕ) (rows : List (List ℕ)) (hash place key i k : ℕ) → k ≡ key % length rows → k < length rows → k ≡ hash % length rows → AreGroups hashes rows → length hashes ≡ place → (slice_get hashes i ≡ Some key) ⊎ ((i ≡ length hashes) × (hash ≡ key)) → Contains (get_or rows k [] ++ place ∷ []) i
grown hashes rows hash place key i k q l e g p (inl s) = Contains-append_left (get_or rows k []) (place ∷ []) i (subst (λ (n : ℕ). Contains (get_or rows n []) i) (sym q) (g key i s))
grown hashes rows hash place key i k q l e g p (inr h) = subst (λ (n : ℕ). Contains (get_or rows k [] ++ place ∷ []) n) (sym (h.0 ∙ p)) (Contains-push (get_or rows k []) place)

kept : (hashes : List ℕ) (rows : List (List ℕ)) (hash key i at : ℕ) → (key % length rows ≡ at → ⊥) → at ≡ hash % length rows → AreGroups hashes rows → (slice_get hashes i ≡ Some key) ⊎ ((i ≡ length hashes) × (hash ≡ key)) → Contains (get_or rows (key % length rows) []) i
kept hashes rows hash key i at n e g (inl s) = g key i s
kept hashes rows hash key i at n e g (inr h) = absurd (n (sym (e ∙ ap (λ (m : ℕ). m % length rows) h.1)))

in-row : (hashes : List ℕ) (rows : List (List ℕ)) (hash place key i at : ℕ) → at ≡ hash % length rows → at < length rows → AreGroups hashes rows → length hashes ≡ place → (slice_get hashes i ≡ Some key) ⊎ ((i ≡ length hashes) × (hash ≡ key)) → (key % length rows ≡ at) ⊎ (key % length rows ≢ at) → Contains (get_or (set rows at (get_or rows at [] ++ place ∷ [])) (key % length rows) []) i
in-row hashes rows hash place key i at e l g p s (inl q) =
    subst (λ (row : List ℕ). Contains row i) (sym (ap (λ (n : ℕ). get_or (set rows at (get_or rows at [] ++ place ∷ [])) n []) q ∙ get_or-set_same rows at (get_or rows at [] ++ place ∷ []) [] l))
    (grown hashes rows hash place key i at (sym q) l e g p s)
in-row hashes rows hash place key i at e l g p s (inr n) =
    subst (λ (row : List ℕ). Contains row i) (sym (get_or-set_other rows at (key % length rows) (get_or rows at [] ++ place ∷ []) [] n))
    (kept hashes rows hash key i at n e g s)

-- one more place
pub groups-on : (hashes : List ℕ) (rows new : List (List ℕ)) (hash place at : ℕ) → at ≡ hash % length rows → at < length rows → new ≡ slice_set rows at (slice_index_or rows at [] ++ place ∷ []) → AreGroups hashes rows → length hashes ≡ place → AreGroups (hashes ++ hash ∷ []) new
groups-on hashes rows new hash place at e l n g p key i s =
    let long : length new ≡ length rows = ap length n ∙ length-set rows at (get_or rows at [] ++ place ∷ []) in
    subst (λ (row : List ℕ). Contains row i) (sym (ap (λ (z : List (List ℕ)). get_or z (key % length new) []) n ∙ ap (λ (m : ℕ). get_or (set rows at (get_or rows at [] ++ place ∷ [])) (key % m) []) long))
    (in-row hashes rows hash place key i at e l g p (last-or hashes hash key i s) (cases_eq (key % length rows) at))

-- one row of a table grows
pub grows : {X : Type 0} (f : X → List ℕ) (vs : List X) (k place : ℕ) (v w : X) → k < length vs → v ≡ get_or vs k v → f w ≡ f v ++ place ∷ [] → map f (set vs k w) ≡ set (map f vs) k (get_or (map f vs) k [] ++ place ∷ [])
grows {X} f vs k place v w low is more = map-set f vs k w ∙ ap (set (map f vs) k) (more ∙ ap (λ l. l ++ place ∷ []) (ap f is ∙ sym (at vs k low)))
  where
    at : (us : List X) (j : ℕ) → j < length us → get_or (map f us) j [] ≡ f (get_or us j v)
    at [] j b = absurd (omega (arith, b))
    at (u ∷ us) zero b = refl
    at (u ∷ us) (suc j) b = at us j (omega (arith, b))

pub as-many : {A B : Type 0} (f : A → B) (xs : List A) → length (map f xs) ≡ length xs
as-many f [] = refl
as-many f (x ∷ xs) = ap suc (as-many f xs)
