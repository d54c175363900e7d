-- The places of numbers in a list that grows.
use Rattle.std.proofs.Common.{◌≡◌, ◌⊎◌, inl, inr, ℕ, zero, suc, ◌+◌, ◌<◌, Bool, true, false, ◌==◌, cond, List, [], ◌∷◌, ◌++◌, length, map, take, get_or, slice_get, Some, refl, sym, ap, ◌∙◌, arith, length-append, append-nil, set}
use Rattle.std.proofs.lemmas.Bool.{eq-eqb, ne_eqb, cases_eq}
use Rattle.std.proofs.lemmas.List.{take_more, get_or-set_same, get_or-set_other, length-set, length-take-le, map-set}
use Rattle.std.proofs.lemmas.Option.{slice_get-get_or, get_or_from_slice_get}
use Rattle.number_places.specs.Places.{places_from, places_of}

places_from-push : (i k : ℕ) (ns : List ℕ) (n : ℕ) → places_from i k (ns ++ n ∷ []) ≡ places_from i k ns ++ cond (n == k) ((i + length ns) ∷ []) []
places_from-push i k [] n = (let e : i ≡ i + 0 = omega arith in ap (λ j. cond (n == k) (j ∷ []) []) e)
places_from-push i k (m ∷ ns) n = go (m == k) (places_from-push (i + 1) k ns n)
  where
    go : (b : Bool) → places_from (i + 1) k (ns ++ n ∷ []) ≡ places_from (i + 1) k ns ++ cond (n == k) ((i + 1 + length ns) ∷ []) []
        → cond b (i ∷ places_from (i + 1) k (ns ++ n ∷ [])) (places_from (i + 1) k (ns ++ n ∷ [])) ≡ cond b (i ∷ places_from (i + 1) k ns) (places_from (i + 1) k ns) ++ cond (n == k) ((i + suc (length ns)) ∷ []) []
    go true h = (let e : i + 1 + length ns ≡ i + suc (length ns) = omega arith in ap (λ l. i ∷ l) h ∙ ap (λ j. i ∷ (places_from (i + 1) k ns ++ cond (n == k) (j ∷ []) [])) e)
    go false h = (let e : i + 1 + length ns ≡ i + suc (length ns) = omega arith in h ∙ ap (λ j. places_from (i + 1) k ns ++ cond (n == k) (j ∷ []) []) e)

pub places_of-push : (k : ℕ) (ns : List ℕ) (n : ℕ) → places_of k (ns ++ n ∷ []) ≡ places_of k ns ++ cond (n == k) (length ns ∷ []) []
places_of-push k ns n = places_from-push 0 k ns n ∙ (let e : 0 + length ns ≡ length ns = omega arith in ap (λ j. places_of k ns ++ cond (n == k) (j ∷ []) []) e)

-- one place more in the list of one number
pub places-more : (lists lists' : List (List ℕ)) (ns : List ℕ) (i n d count : ℕ) → i < length ns → n ≡ get_or ns i d → length lists ≡ count → n < count → lists' ≡ set lists n (get_or lists n [] ++ i ∷ [])
    → ((k : ℕ) → k < count → slice_get lists k ≡ Some (places_of k (take i ns))) → (k : ℕ) → k < count → slice_get lists' k ≡ Some (places_of k (take (i + 1) ns))
places-more lists lists' ns i n d count low at many in_range is before k high = ap (λ l. slice_get l k) is ∙ slice_get-get_or (set lists n (get_or lists n [] ++ i ∷ [])) k [] (omega (arith, high, many, length-set lists n (get_or lists n [] ++ i ∷ []))) ∙ ap (λ l. Some l) (by (cases_eq k n))
  where
    long : length (take i ns) ≡ i
    long = length-take-le i ns (omega (arith, low))

    old : get_or lists k [] ≡ places_of k (take i ns)
    old = get_or_from_slice_get lists k (places_of k (take i ns)) [] (before k high)

    whole : places_of k (take (i + 1) ns) ≡ places_of k (take i ns) ++ cond (n == k) (i ∷ []) []
    whole = ap (places_of k) (take_more ns i d low ∙ ap (λ m. take i ns ++ m ∷ []) (sym at)) ∙ places_of-push k (take i ns) n ∙ ap (λ j. places_of k (take i ns) ++ cond (n == k) (j ∷ []) []) long

    by : (k ≡ n) ⊎ (k ≡ n → ⊥) → get_or (set lists n (get_or lists n [] ++ i ∷ [])) k [] ≡ places_of k (take (i + 1) ns)
    by (inl same) =
        let here : get_or (set lists n (get_or lists n [] ++ i ∷ [])) n [] ≡ get_or lists n [] ++ i ∷ [] = get_or-set_same lists n (get_or lists n [] ++ i ∷ []) [] (omega (arith, in_range, many)) in
        ap (λ j. get_or (set lists n (get_or lists n [] ++ i ∷ [])) j []) same ∙ here ∙ ap (λ j. get_or lists j [] ++ i ∷ []) (sym same) ∙ ap (λ l. l ++ i ∷ []) old ∙ sym (whole ∙ ap (λ b. places_of k (take i ns) ++ cond b (i ∷ []) []) (eq-eqb n k (sym same)))
    by (inr apart) = get_or-set_other lists n k (get_or lists n [] ++ i ∷ []) [] apart ∙ old ∙ sym (whole ∙ ap (λ b. places_of k (take i ns) ++ cond b (i ∷ []) []) (ne_eqb n k (λ e. apart (sym e))) ∙ append-nil (places_of k (take i ns)))

-- one list of a table of lists grows
pub grows_at : {X : Type 0} (f : X → List ℕ) (vs : List X) (k place : ℕ) (v v' : X) → k < length vs → v ≡ get_or vs k v → f v' ≡ f v ++ place ∷ [] → map f (set vs k v') ≡ set (map f vs) k (get_or (map f vs) k [] ++ place ∷ [])
grows_at {X} f vs k place v v' low is more = map-set f vs k v' ∙ ap (set (map f vs) k) (more ∙ ap (λ l. l ++ place ∷ []) (ap f is ∙ sym (at vs k low)))
  where
    at : (us : List X) (j : ℕ) → j < length us → get_or (map f us) j [] ≡ f (get_or us j v)
    at [] j low' = absurd (omega (arith, low'))
    at (u ∷ us) zero low' = refl
    at (u ∷ us) (suc j) low' = at us j (omega (arith, low'))

-- one empty list more at the end
pub empty-more : {X : Type 0} (f : X → List ℕ) (vs vs' : List X) (v : X) (n : ℕ) → vs' ≡ vs ++ v ∷ [] → f v ≡ [] → length vs ≡ n → ((k : ℕ) → k < n → slice_get (map f vs) k ≡ Some []) → (k : ℕ) → k < n + 1 → slice_get (map f vs') k ≡ Some []
empty-more {X} f vs vs' v n is none long before k low = ap (λ l. slice_get (map f l) k) is ∙ go vs k n long low before
  where
    go : (us : List X) (j m : ℕ) → length us ≡ m → j < m + 1 → ((i : ℕ) → i < m → slice_get (map f us) i ≡ Some []) → slice_get (map f (us ++ v ∷ [])) j ≡ Some []
    go [] zero m l low' b = ap (λ x. Some x) none
    go [] (suc j) m l low' b = absurd (omega (arith, l, low'))
    go (u ∷ us) zero m l low' b = b 0 (omega (arith, l))
    go (u ∷ us) (suc j) m l low' b = go us j (length us) refl (omega (arith, l, low')) (λ i low''. b (suc i) (omega (arith, l, low'')))

pub length-pushed : {X : Type 0} (xs xs' : List X) (x : X) (n : ℕ) → xs' ≡ xs ++ x ∷ [] → length xs ≡ n → length xs' ≡ n + 1
length-pushed xs xs' x n is long = ap length is ∙ length-append xs (x ∷ []) ∙ ap (λ m. m + 1) long

pub length-grown : (f : List (List ℕ)) (g : List (List ℕ)) (k n : ℕ) (l : List ℕ) → g ≡ set f k l → length f ≡ n → length g ≡ n
length-grown f g k n l is long = ap length is ∙ length-set f k l ∙ long

pub length-mapped : {X Y : Type 0} (f : X → Y) (xs : List X) → length (map f xs) ≡ length xs
length-mapped f [] = refl
length-mapped f (x ∷ xs) = ap (λ n. suc n) (length-mapped f xs)

pub each-same : (lists : List (List ℕ)) (count n : ℕ) (ns ns' : List ℕ) → count ≡ n → ns ≡ ns' → ((k : ℕ) → k < count → slice_get lists k ≡ Some (places_of k ns)) → (k : ℕ) → k < n → slice_get lists k ≡ Some (places_of k ns')
each-same lists count n ns ns' c e each k low = each k (omega (arith, c, low)) ∙ ap (λ l. Some (places_of k l)) e
