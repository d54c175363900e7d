-- The steps that make a level.
use Rattle.std.proofs.Common.{reverse, ◌≡◌, inl, inr, ℕ, zero, ◌+◌, ◌<◌, ◌≤◌, cond, Bool, true, false, ◌==◌, List, [], ◌∷◌, ◌++◌, length, map, Option, Some, None, All, refl, sym, ap, subst, ◌∙◌, append-nil, arith}
use Rattle.std.proofs.lemmas.Bool.{cases_lt, lt-leb, leb-true, eqb-true, false≢true}
use Rattle.std.proofs.lemmas.List.Elements.{All-nil, All-cons, All-head, All-tail, All-push, All-append, All-weaker}
use Rattle.std.specs.List.Sorted.{IsPermutation}
use Rattle.std.proofs.lemmas.List.Sorted.{All-permutation, IsPermutation-map, IsPermutation-trans, IsPermutation-append_left, IsPermutation-refl}
use Rattle.terms.specs.Code.{prefix_code}
use Rattle.terms.specs.Count.{count, once_if, total}
use Rattle.terms.specs.Place.{Place, goal_place, weigh}
use Rattle.terms.specs.Reading.{Reading, turn, and_then}
use Rattle.terms.proofs.Standing.{count-permutation}
use Rattle.terms.proofs.Sums.{total-append}
use Rattle.partial_terms.specs.Leasts.{key}
use Rattle.partial_terms.specs.Fronts.{begins, reading, IsItem, key_within, IsGrowth}
use Rattle.partial_terms.specs.Search.{IsSearch, fronts, children}
use Rattle.reconstruction.specs.NumberedPlaces.{IsKept, IsNumbered}
use Rattle.reconstruction.specs.Tabled.{place_by_numbers, places_of, least_of, AreNumbered, front_of, stack_of, IsHeld, AreHeld, IsParent, AreGrown, child, may, seen, picked, Grew}
use Rattle.reconstruction.specs.Variables.{numbers_at}
use Rattle.reconstruction.specs.Levelled.{AreComplete, IsAt}
use Rattle.reconstruction.specs.declared.item.Item.{Item}
use Rattle.reconstruction.specs.declared.item.Arena.{Arena}
use Rattle.reconstruction.specs.declared.numbered_place.NumberedPlace.{NumberedPlace}
use Rattle.reconstruction.specs.declared.tables.Tables.{Tables}
use Rattle.partial_terms.proofs.Levels.{taken, grown}
use Rattle.partial_terms.proofs.Popping.{completed}
use Rattle.reconstruction.proofs.Children.{after, next_reading}
use Rattle.reconstruction.proofs.Growths.{are-held-grown, seen-grown}

add_none : (b : Bool) (c : ℕ) → cond b c zero ≡ cond b (0 + c) zero
add_none true c = omega arith
add_none false c = refl

-- how often a number is picked
pub count-picked : (ok : ℕ → Bool) (ns : List ℕ) (n : ℕ) → count (λ m. m == n) (picked ok ns) ≡ cond (ok n) (count (λ m. m == n) ns) 0
unfolding picked
count-picked ok [] n = both (ok n)
  where
    both : (b : Bool) → zero ≡ cond b zero zero
    both true = refl
    both false = refl
count-picked ok (m ∷ ns) n = go (ok m) refl (m == n) refl (count-picked ok ns n)
  where
    go : (b : Bool) → ok m ≡ b → (s : Bool) → (m == n) ≡ s → count (λ k. k == n) (picked ok ns) ≡ cond (ok n) (count (λ k. k == n) ns) 0 → count (λ k. k == n) (cond b (m ∷ picked ok ns) (picked ok ns)) ≡ cond (ok n) (once_if s + count (λ k. k == n) ns) 0
    go true is true same h = ap (λ c. once_if c + count (λ k. k == n) (picked ok ns)) same ∙ ap (λ c. 1 + c) h ∙ yes (ok n) (ap ok (sym (eqb-true m n same)) ∙ is)
      where
        yes : (b : Bool) → b ≡ true → 1 + cond b (count (λ k. k == n) ns) 0 ≡ cond b (1 + count (λ k. k == n) ns) 0
        yes true e = refl
        yes false e = absurd (false≢true e)
    go true is false apart h =
        let none : once_if false + count (λ k. k == n) (picked ok ns) ≡ count (λ k. k == n) (picked ok ns) = omega arith in
        ap (λ c. once_if c + count (λ k. k == n) (picked ok ns)) apart ∙ none ∙ h ∙ add_none (ok n) (count (λ k. k == n) ns)
    go false is true same h = h ∙ none (ok n) (ap ok (sym (eqb-true m n same)) ∙ is)
      where
        none : (b : Bool) → b ≡ false → cond b (count (λ k. k == n) ns) 0 ≡ cond b (1 + count (λ k. k == n) ns) 0
        none false e = refl
        none true e = absurd (false≢true (sym e))
    go false is false apart h = h ∙ add_none (ok n) (count (λ k. k == n) ns)

pub all-picked : (ok : ℕ → Bool) (ns : List ℕ) → All (λ n. ok n ≡ true) (picked ok ns)
unfolding picked
all-picked ok [] = All-nil (λ n. ok n ≡ true)
all-picked ok (m ∷ ns) = go (ok m) refl (all-picked ok ns)
  where
    go : (b : Bool) → ok m ≡ b → All (λ n. ok n ≡ true) (picked ok ns) → All (λ n. ok n ≡ true) (cond b (m ∷ picked ok ns) (picked ok ns))
    go true is h = All-cons (λ n. ok n ≡ true) m (picked ok ns) is h
    go false is h = h

-- the numbers that are added to a front are those that may follow it, each once
pub growth : (t : Tables) → AreComplete t → (f : List ℕ) (w : ℕ) (p : NumberedPlace) (rest : List Place) → IsNumbered t.env t.patterns p → reading t.env (goal_place t.env) f ≡ Some (record { weight = w; open_places = place_by_numbers t p ∷ rest })
    → IsGrowth t.env t.env.limit (least_of t) (goal_place t.env) f (picked (may t f) (numbers_at t p))
growth t ready f w p rest place is n = count-picked (may t f) (numbers_at t p) n ∙ go (may t f n) refl
  where
    follows : child t f n ≡ and_then (turn t.env (place_by_numbers t p) n) (after w rest)
    follows = next_reading t.env (goal_place t.env) f n w (place_by_numbers t p) rest is

    there : (o : Option Reading) → turn t.env (place_by_numbers t p) n ≡ o → key_within t.env.limit (least_of t) (and_then o (after w rest)) ≡ true → 1 ≤ count (λ m. m == n) (numbers_at t p)
    there None e h = absurd (false≢true h)
    there (Some r) e h =
        let low : key (least_of t) (record { weight = w + r.weight; open_places = r.open_places ++ rest }) ≤ t.env.limit = leb-true (key (least_of t) (record { weight = w + r.weight; open_places = r.open_places ++ rest })) t.env.limit h in
        let sums = total-append (least_of t) r.open_places rest in
        ready.complete p place n r e (omega (arith, low, sums))

    go : (b : Bool) → may t f n ≡ b → cond b (count (λ m. m == n) (numbers_at t p)) 0 ≡ once_if b
    go false e = refl
    go true e =
        let few = ready.once p place n in
        let some = there (turn t.env (place_by_numbers t p) n) refl (ap (key_within t.env.limit (least_of t)) (sym follows) ∙ e) in
        omega (arith, few, some)

-- the items in another order
pub moved_at : (t : Tables) (a : Arena) (from : ℕ) (old new : List (ℕ × Item)) (found : List ℕ) → IsAt t a from old found → IsPermutation old new → IsAt t a from new found
moved_at t a from old new found h p =
    let q : IsPermutation (seen a old) (seen a new) = IsPermutation-map (λ (x : ℕ × Item). (x.0, front_of a x.1.front)) old new p in
    record {
      all = All-permutation (λ (x : ℕ × Item). IsHeld t a x.0 x.1) old new p h.all;
      inside = h.inside;
      search = record {
        items = All-permutation (λ (x : ℕ × List ℕ). IsItem t.env t.env.limit (least_of t) (goal_place t.env) x.0 x.1) (seen a old) (seen a new) q h.search.items;
        ended = h.search.ended;
        divided = λ e fit l. omega (arith, h.search.divided e fit l, count-permutation (λ x. begins x (prefix_code e)) (fronts (seen a old)) (fronts (seen a new)) (IsPermutation-map (λ (x : ℕ × List ℕ). x.1) (seen a old) (seen a new) q));
      };
    }

-- no key is less than the level's weight
pub key_from : (t : Tables) (a : Arena) (from k : ℕ) (i : Item) (items : List (ℕ × Item)) (found : List ℕ) → AreComplete t → IsAt t a from ((k, i) ∷ items) found → from ≤ k
key_from t a from k i items found ready h =
    let P : ℕ × List ℕ → Type 0 = λ x. IsItem t.env t.env.limit (least_of t) (goal_place t.env) x.0 x.1 in
    let item : IsItem t.env t.env.limit (least_of t) (goal_place t.env) k (front_of a i.front) = All-head P (k, front_of a i.front) (seen a items) h.search.items in
    let c = completed t.env t.env.limit (IsKept t.env t.patterns) (least_of t) (goal_place t.env) ready.least ready.root k (front_of a i.front) item in
    let d = h.search.divided c.0 c.1 (omega (arith, c.2, item.within)) in
    elim (cases_lt k from) [
      | inl less ↦ absurd (omega (arith, d, ap once_if c.3, ap once_if (lt-leb from (weigh t.env (goal_place t.env) c.0) (omega (arith, c.2, less)))))
      | inr fine ↦ fine
    ]

-- a whole front of the level's weight goes to the level
pub step_taken : (t : Tables) (a : Arena) (from k : ℕ) (i : Item) (rest : List (ℕ × Item)) (found : List ℕ) → AreComplete t → IsAt t a from ((k, i) ∷ rest) found → k ≤ from → stack_of a i.stack ≡ [] → IsAt t a from rest (found ++ i.front ∷ [])
step_taken t a from k i rest found ready h l none =
    let P : ℕ × Item → Type 0 = λ x. IsHeld t a x.0 x.1 in
    let kept : IsHeld t a k i = All-head P (k, i) rest h.all in
    let least = key_from t a from k i rest found ready h in
    let same : k ≡ from = omega (arith, least, l) in
    let start : IsPermutation (seen a ((k, i) ∷ rest)) ((from, front_of a i.front) ∷ seen a rest) = subst (λ x. IsPermutation (seen a ((k, i) ∷ rest)) ((x, front_of a i.front) ∷ seen a rest)) same (IsPermutation-refl (seen a ((k, i) ∷ rest))) in
    record {
      all = All-tail P (k, i) rest h.all;
      inside = All-push (λ x. x < length a.fronts) found i.front h.inside kept.front_in;
      search = rw (map-push found) (taken t.env t.env.limit (least_of t) (goal_place t.env) from (seen a ((k, i) ∷ rest)) (seen a rest) (map (front_of a) found) (front_of a i.front) _ h.search start kept.is (ap (places_of t) none));
    }
  where
    map-push : (xs : List ℕ) → map (front_of a) (xs ++ i.front ∷ []) ≡ map (front_of a) xs ++ front_of a i.front ∷ []
    map-push [] = refl
    map-push (x ∷ xs) = ap (λ l. front_of a x ∷ l) (map-push xs)

-- an item with its first open place taken off
pub parent_of : (t : Tables) (a : Arena) (k : ℕ) (p : NumberedPlace) (r base : ℕ) (i : Item) → IsHeld t a k i → stack_of a i.stack ≡ p ∷ stack_of a r → r < length a.stacks → base + least_of t (place_by_numbers t p) ≡ k → IsParent t a (record { front = i.front; base = base; place = p; rest = r })
parent_of t a k p r base i h first l sum =
    let numbered : AreNumbered t (p ∷ stack_of a r) = subst (AreNumbered t) first h.numbered in
    let keyed = h.keyed in
    record {
      front_in = h.front_in;
      rest_in = l;
      first = All-head (IsNumbered t.env t.patterns) p (stack_of a r) numbered;
      others = All-tail (IsNumbered t.env t.patterns) p (stack_of a r) numbered;
      weight = h.weight;
      is = h.is ∙ ap (λ x. Some (record { weight = h.weight; open_places = places_of t x })) first;
      base = omega (arith, keyed, ap (λ x. total (least_of t) (places_of t x)) first, sum);
    }

pub first_below : (t : Tables) (a : Arena) (k : ℕ) (p : NumberedPlace) (r : ℕ) (i : Item) → IsHeld t a k i → stack_of a i.stack ≡ p ∷ stack_of a r → least_of t (place_by_numbers t p) ≤ k
first_below t a k p r i h first = (let keyed = h.keyed in omega (arith, keyed, ap (λ x. total (least_of t) (places_of t x)) first))

pub same_fronts : (a b : Arena) → AreGrown a b → (xs : List ℕ) → All (λ x. x < length a.fronts) xs → map (front_of b) xs ≡ map (front_of a) xs
same_fronts a b s [] all = refl
same_fronts a b s (x ∷ xs) all = ap (λ c. reverse c ∷ map (front_of b) xs) (s.fronts.same x (All-head (λ y. y < length a.fronts) x xs all)) ∙ ap (λ l. front_of a x ∷ l) (same_fronts a b s xs (All-tail (λ y. y < length a.fronts) x xs all))

inside-grown : (a b : Arena) → AreGrown a b → (xs : List ℕ) → All (λ x. x < length a.fronts) xs → All (λ x. x < length b.fronts) xs
inside-grown a b s xs all = All-weaker (λ x. x < length a.fronts) (λ x. x < length b.fronts) (λ x l. (let long = s.fronts.longer in omega (arith, l, long))) xs all

-- what was kept in vain, as by a growth that found no memory, changes nothing
pub at_grown : (t : Tables) (a b : Arena) (from : ℕ) (items : List (ℕ × Item)) (found : List ℕ) → AreGrown a b → IsAt t a from items found → IsAt t b from items found
at_grown t a b from items found s h = record {
  all = are-held-grown t a b s items h.all;
  inside = inside-grown a b s found h.inside;
  search = rw (seen-grown t a b s items h.all, same_fronts a b s found h.inside) h.search;
}

seen-append : (a : Arena) (xs ys : List (ℕ × Item)) → seen a (xs ++ ys) ≡ seen a xs ++ seen a ys
seen-append a [] ys = refl
seen-append a (q ∷ xs) ys = ap (λ l. (q.0, front_of a q.1.front) ∷ l) (seen-append a xs ys)

-- what is seen of the items after a growth
pub grown_seen : (t : Tables) (a b : Arena) (f ns : List ℕ) (rest none aside new : List (ℕ × Item)) → AreHeld t a rest → none ≡ [] → Grew t a b f ns none aside → IsPermutation (aside ++ rest) new
    → IsPermutation (children t.env (least_of t) (goal_place t.env) f (picked (may t f) ns) ++ seen a rest) (seen b new)
grown_seen t a b f ns rest none aside new old empty grew perm =
    let grows = children t.env (least_of t) (goal_place t.env) f (picked (may t f) ns) in
    let one : IsPermutation grows (seen b aside) = subst (λ l. IsPermutation l (seen b aside)) (ap (λ l. grows ++ seen a l) empty ∙ append-nil grows) grew.moved in
    let two : IsPermutation (grows ++ seen a rest) (seen b aside ++ seen a rest) = IsPermutation-append_left (seen a rest) grows (seen b aside) one in
    let shown : seen b aside ++ seen a rest ≡ seen b (aside ++ rest) = ap (λ l. seen b aside ++ l) (sym (seen-grown t a b grew.grown rest old)) ∙ sym (seen-append b aside rest) in
    IsPermutation-trans (grows ++ seen a rest) (seen b (aside ++ rest)) (seen b new) (subst (λ l. IsPermutation (grows ++ seen a rest) l) shown two) (IsPermutation-map (λ (x : ℕ × Item). (x.0, front_of b x.1.front)) (aside ++ rest) new perm)

-- an item gives way to what grows from it, which was made aside
pub step_grown : (t : Tables) (a b : Arena) (from k r : ℕ) (p : NumberedPlace) (i : Item) (rest none aside new : List (ℕ × Item)) (found : List ℕ) → AreComplete t → IsAt t a from ((k, i) ∷ rest) found → stack_of a i.stack ≡ p ∷ stack_of a r
    → none ≡ [] → Grew t a b (front_of a i.front) (numbers_at t p) none aside → IsPermutation (aside ++ rest) new → IsAt t b from new found
step_grown t a b from k r p i rest none aside new found ready h first empty grew perm =
    let P : ℕ × Item → Type 0 = λ x. IsHeld t a x.0 x.1 in
    let Q : ℕ × Item → Type 0 = λ x. IsHeld t b x.0 x.1 in
    let kept : IsHeld t a k i = All-head P (k, i) rest h.all in
    let f = front_of a i.front in
    let g = t.env in
    let root = goal_place t.env in
    let place : IsNumbered t.env t.patterns p = All-head (IsNumbered t.env t.patterns) p (stack_of a r) (subst (AreNumbered t) first kept.numbered) in
    let at : Reading = record { weight = kept.weight; open_places = place_by_numbers t p ∷ places_of t (stack_of a r) } in
    let is : reading g root f ≡ Some at = kept.is ∙ ap (λ x. Some (record { weight = kept.weight; open_places = places_of t x })) first in
    let ns = picked (may t f) (numbers_at t p) in
    let grows = children g (least_of t) root f ns in
    let old : AreHeld t a rest = All-tail P (k, i) rest h.all in
    let three : IsPermutation (grows ++ seen a rest) (seen b new) = grown_seen t a b f (numbers_at t p) rest none aside new old empty grew perm in
    record {
      all = All-permutation Q (aside ++ rest) new perm (All-append Q aside rest grew.all (are-held-grown t a b grew.grown rest old));
      inside = inside-grown a b grew.grown found h.inside;
      search = subst (λ l. IsSearch g t.env.limit (least_of t) root from (seen b new) l) (sym (same_fronts a b grew.grown found h.inside))
          (grown g t.env.limit (IsKept t.env t.patterns) (least_of t) root ready.least ready.root from (seen a ((k, i) ∷ rest)) (seen a rest) (seen b new) (map (front_of a) found) k f at ns
          h.search (IsPermutation-refl (seen a ((k, i) ∷ rest))) is (nonempty (place_by_numbers t p) (places_of t (stack_of a r))) (growth t ready f kept.weight p (places_of t (stack_of a r)) place is) (all-picked (may t f) (numbers_at t p)) three);
    }
  where
    nonempty : (q : Place) (ps : List Place) → q ∷ ps ≡ [] → ⊥
    nonempty q ps e = cc
