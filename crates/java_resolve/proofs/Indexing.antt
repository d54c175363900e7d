-- The index of declarations by their words.
use Rattle.std.proofs.Common.{◌≡◌, ◌∙◌, ap, sym, subst, refl, arith, ℕ, zero, suc, ◌+◌, ◌<◌, ◌==◌, Bool, true, false, List, [], ◌∷◌, ◌++◌, length, slice_get, get_or, Option, Some, None, cond, bytes_eq, rules, tests, eq-eqb, take, take-suc}
use Rattle.std.proofs.lemmas.Bool.{false≢true}
use Rattle.name_places.specs.Places.{place_of}
use Rattle.name_places.proofs.Places.{place-get}
use Rattle.number_places.specs.Places.{places_from, places_of}
use Rattle.terms.specs.declared.parts.Decl.{Decl}
use Rattle.java_resolve.specs.Index.{with_key, at_place, ArePlaces}
use Rattle.java_resolve.specs.Keys.{key}
use Rattle.java_resolve.proofs.Keys.{bytes_self, bytes_is}

some_is : (m n : ℕ) → Some m ≡ Some n → m ≡ n
some_is m n e = cc

pub places_with : (names : List (List ℕ)) (ds : List Decl) (ns : List ℕ) (d : Decl) (n : ℕ) → ArePlaces names ds ns → place_of names (key d.form) ≡ Some n → ArePlaces names (ds ++ d ∷ []) (ns ++ n ∷ [])
places_with names [] [] d n h e = (e, tt)
places_with names [] (m ∷ ns) d n h e = absurd h
places_with names (c ∷ ds) [] d n h e = absurd h
places_with names (c ∷ ds) (m ∷ ns) d n h e = (h.0, places_with names ds ns d n h.1 e)

pub places_below : (names : List (List ℕ)) (ds : List Decl) (ns : List ℕ) → ArePlaces names ds ns → (i k : ℕ) → slice_get ns i ≡ Some k → k < length names
places_below names [] [] h i k e = absurd cc
places_below names [] (m ∷ ns) h i k e = absurd h
places_below names (c ∷ ds) [] h i k e = absurd h
places_below names (c ∷ ds) (m ∷ ns) h zero k e = subst (λ x. x < length names) (some_is m k e) (place-get names (key c.form) m h.0).0
places_below names (c ∷ ds) (m ∷ ns) h (suc i) k e = places_below names ds ns h.1 i k e

same_word : (names : List (List ℕ)) (x t : List ℕ) (n : ℕ) → place_of names x ≡ Some n → place_of names t ≡ Some n → x ≡ t
same_word names x t n h k = sym (place-get names x n h).1 ∙ (place-get names t n k).1

test_by : (names : List (List ℕ)) (x t : List ℕ) (n k : ℕ) → place_of names x ≡ Some n → place_of names t ≡ Some k → (a b : Bool) → (n == k) ≡ a → bytes_eq x t ≡ b → a ≡ b
test_by names x t n k h l true true e f = refl
test_by names x t n k h l false false e f = refl
test_by names x t n k h l true false e f =
    let same : n ≡ k = search (rules, tests) in
    let w = same_word names x t k (h ∙ ap Some same) l in
    absurd (false≢true (sym f ∙ ap (bytes_eq x) (sym w) ∙ bytes_self x))
test_by names x t n k h l false true e f =
    let w = bytes_is x t f in
    let same = some_is n k (sym h ∙ ap (place_of names) w ∙ l) in
    absurd (false≢true (sym e ∙ eq-eqb n k same))

found_by : (b c : Bool) (i : ℕ) (xs ys : List ℕ) → b ≡ c → xs ≡ ys → cond b (i ∷ xs) xs ≡ cond c (i ∷ ys) ys
found_by b c i xs ys e f = ap (λ z. cond z (i ∷ xs) xs) e ∙ ap (λ z. cond c (i ∷ z) z) f

add_one : (i : ℕ) → i + 1 ≡ suc i
add_one i = omega arith

pub found_is : (names : List (List ℕ)) (ds : List Decl) (ns : List ℕ) → ArePlaces names ds ns → (t : List ℕ) (k : ℕ) → place_of names t ≡ Some k → (i : ℕ) → places_from i k ns ≡ with_key i t ds
unfolding with_key
found_is names [] [] h t k e i = refl
found_is names [] (m ∷ ns) h t k e i = absurd h
found_is names (c ∷ ds) [] h t k e i = absurd h
found_is names (c ∷ ds) (m ∷ ns) h t k e i =
    found_by (m == k) (bytes_eq (key c.form) t) i (places_from (i + 1) k ns) (with_key (suc i) t ds)
    (test_by names (key c.form) t m k h.0 e (m == k) (bytes_eq (key c.form) t) refl refl)
    (ap (λ z. places_from z k ns) (add_one i) ∙ found_is names ds ns h.1 t k e (suc i))

none_by : (b : Bool) (i : ℕ) (xs : List ℕ) → b ≡ false → xs ≡ [] → cond b (i ∷ xs) xs ≡ []
none_by false i xs e f = f
none_by true i xs e f = absurd (false≢true (sym e))

no_word : (names : List (List ℕ)) (x t : List ℕ) (n : ℕ) → place_of names x ≡ Some n → place_of names t ≡ None → (b : Bool) → bytes_eq x t ≡ b → b ≡ false
no_word names x t n h k false e = refl
no_word names x t n h k true e = absurd (let w = bytes_is x t e in cc (sym h ∙ ap (place_of names) w ∙ k))

pub none_is : (names : List (List ℕ)) (ds : List Decl) (ns : List ℕ) → ArePlaces names ds ns → (t : List ℕ) → place_of names t ≡ None → (i : ℕ) → with_key i t ds ≡ []
unfolding with_key
none_is names [] [] h t e i = refl
none_is names [] (m ∷ ns) h t e i = absurd h
none_is names (c ∷ ds) [] h t e i = absurd h
none_is names (c ∷ ds) (m ∷ ns) h t e i = none_by (bytes_eq (key c.form) t) i (with_key (suc i) t ds) (no_word names (key c.form) t m h.0 e (bytes_eq (key c.form) t) refl) (none_is names ds ns h.1 t e (suc i))

get_some : (xs : List (List ℕ)) (k : ℕ) (v : List ℕ) → slice_get xs k ≡ Some v → get_or xs k [] ≡ v
get_some [] k v e = absurd cc
get_some (x ∷ xs) zero v e = cc
get_some (x ∷ xs) (suc k) v e = get_some xs k v e

-- what the lists have for a word
index_by : (names lists : List (List ℕ)) (ds : List Decl) (ns : List ℕ) → ArePlaces names ds ns → ((k : ℕ) → k < length names → slice_get lists k ≡ Some (places_of k ns)) → (t : List ℕ) (o : Option ℕ) → place_of names t ≡ o → at_place lists o ≡ with_key 0 t ds
index_by names lists ds ns h l t None e = sym (none_is names ds ns h t e 0)
index_by names lists ds ns h l t (Some k) e = get_some lists k (places_of k ns) (l k (place-get names t k e).0) ∙ found_is names ds ns h t k e 0

pub index_is : (names lists : List (List ℕ)) (ds : List Decl) (ns : List ℕ) → ArePlaces names ds ns → ((k : ℕ) → k < length names → slice_get lists k ≡ Some (places_of k ns)) → (t : List ℕ) → at_place lists (place_of names t) ≡ with_key 0 t ds
index_is names lists ds ns h l t = index_by names lists ds ns h l t (place_of names t) refl

pub places_more : (names : List (List ℕ)) (ds : List Decl) (i : ℕ) (d : Decl) (ns ms : List ℕ) (n : ℕ) → i < length ds → d ≡ get_or ds i d → ms ≡ ns ++ n ∷ [] → place_of names (key d.form) ≡ Some n → ArePlaces names (take i ds) ns → ArePlaces names (take (i + 1) ds) ms
places_more names ds i d ns ms n l e m p h =
    let more : take (i + 1) ds ≡ take i ds ++ d ∷ [] = ap (λ z. take z ds) (add_one i) ∙ take-suc ds i d l ∙ ap (λ z. take i ds ++ z ∷ []) (sym e) in
    subst (λ z. ArePlaces names z ms) (sym more) (subst (λ z. ArePlaces names (take i ds ++ d ∷ []) z) (sym m) (places_with names (take i ds) ns d n h p))
