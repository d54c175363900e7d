-- The pops of a search, step by step.
use Rattle.std.proofs.Common.{◌≡◌, ◌⊎◌, inl, inr, ℕ, ◌+◌, ◌≤◌, min, nat_le, true, List, [], ◌∷◌, ◌++◌, length, map, Option, Some, None, All, refl, sym, subst, arith}
use Rattle.std.proofs.lemmas.Bool.{and_from, le-leb, cases_lt}
use Rattle.std.proofs.lemmas.List.Elements.{All-nil, All-cons, All-head, All-append, All-weaker}
use Rattle.std.specs.List.Sorted.{IsPermutation}
use Rattle.std.proofs.lemmas.List.Sorted.{All-permutation, IsPermutation-map, IsPermutation-refl}
use Rattle.terms.specs.Code.{prefix_code}
use Rattle.terms.specs.Count.{count, expr_eq, Stands, total}
use Rattle.terms.specs.Expr.{Expr}
use Rattle.terms.specs.Place.{goal_place, fits_place, weigh, IsInhabitant, total_of}
use Rattle.partial_terms.specs.Fronts.{begins}
use Rattle.reconstruction.specs.Levelled.{AreComplete, IsAt, with_held}
use Rattle.partial_terms.specs.Popped.{HasCompletion, IsPopped, NoneLost}
use Rattle.reconstruction.specs.Rebuilding.{AreGiven}
use Rattle.partial_terms.specs.Search.{fronts, children}
use Rattle.reconstruction.specs.NumberedPlaces.{IsKept}
use Rattle.reconstruction.specs.Tabled.{least_of, front_of, may, picked, seen, AreHeld, AreGrown, Grew}
use Rattle.reconstruction.specs.Tallied.{capped, held_many, AreTallied}
use Rattle.reconstruction.specs.declared.item.Item.{Item}
use Rattle.reconstruction.specs.declared.item.Arena.{Arena}
use Rattle.reconstruction.specs.declared.tables.Tables.{Tables}
use Rattle.reconstruction.proofs.Growths.{seen-grown}
use Rattle.partial_terms.proofs.Levels.{fronts-children, fronts-append}
use Rattle.reconstruction.proofs.Making.{key_from, grown_seen}
use Rattle.partial_terms.proofs.Popping.{popped_more, popped_grown, pops_bound}
use Rattle.reconstruction.proofs.Remaining.{none_lost_moved, none_lost_first, given_fit, given_popped, few_codes}

-- the items in another order
pub popped_moved : (t : Tables) (a : Arena) (w : ℕ) (popped : List (List ℕ)) (old new : List (ℕ × Item)) → IsPermutation old new → IsPopped t.env (goal_place t.env) w popped (fronts (seen a old)) → IsPopped t.env (goal_place t.env) w popped (fronts (seen a new))
popped_moved t a w popped old new p h =
    let shown : IsPermutation (seen a old) (seen a new) = IsPermutation-map (λ (x : ℕ × Item). (x.0, front_of a x.1.front)) old new p in
    let moved : IsPermutation (fronts (seen a old)) (fronts (seen a new)) = IsPermutation-map (λ (x : ℕ × List ℕ). x.1) (seen a old) (seen a new) shown in
    record {
      distinct = h.distinct;
      each = h.each;
      apart = All-permutation (λ (q : List ℕ). count (begins q) popped ≡ 0) (fronts (seen a old)) (fronts (seen a new)) moved h.apart;
    }

-- what was kept in vain changes nothing
pub popped_kept : (t : Tables) (a b : Arena) (w : ℕ) (popped : List (List ℕ)) (items : List (ℕ × Item)) → AreGrown a b → AreHeld t a items → IsPopped t.env (goal_place t.env) w popped (fronts (seen a items)) → IsPopped t.env (goal_place t.env) w popped (fronts (seen b items))
popped_kept t a b w popped items s all h = subst (λ l. IsPopped t.env (goal_place t.env) w popped (fronts l)) (sym (seen-grown t a b s items all)) h

-- within a greater weight
pub popped_within : (t : Tables) (v w : ℕ) (popped queue : List (List ℕ)) → v ≤ w → IsPopped t.env (goal_place t.env) v popped queue → IsPopped t.env (goal_place t.env) w popped queue
popped_within t v w popped queue l h = record {
  distinct = h.distinct;
  each = All-weaker (HasCompletion t.env (goal_place t.env) v) (HasCompletion t.env (goal_place t.env) w) (λ f c. (let low = c.within in record { term = c.term; fit = c.fit; within = omega (arith, low, l); starts = c.starts })) popped h.each;
  apart = h.apart;
}

-- an item of the level is taken out
pub popped_taken : (t : Tables) (a : Arena) (from k : ℕ) (i : Item) (rest : List (ℕ × Item)) (found : List ℕ) (popped : List (List ℕ)) → AreComplete t → IsAt t a from ((k, i) ∷ rest) found → k ≤ from
    → IsPopped t.env (goal_place t.env) from popped (fronts (seen a ((k, i) ∷ rest))) → IsPopped t.env (goal_place t.env) from (front_of a i.front ∷ popped) (fronts (seen a rest))
popped_taken t a from k i rest found popped ready h l p =
    popped_more t.env t.env.limit (IsKept t.env t.patterns) (least_of t) (goal_place t.env) ready.least ready.root from from k (front_of a i.front) (seen a ((k, i) ∷ rest)) (seen a rest) (map (front_of a) found) popped
    (key_from t a from k i rest found ready h) l h.search (IsPermutation-refl (seen a ((k, i) ∷ rest))) p

-- and what grows from it is put in
pub popped_grow : (t : Tables) (a b : Arena) (from k : ℕ) (i : Item) (ns : List ℕ) (rest none aside new : List (ℕ × Item)) (found : List ℕ) (popped : List (List ℕ)) → AreComplete t → IsAt t a from ((k, i) ∷ rest) found → k ≤ from
    → none ≡ [] → Grew t a b (front_of a i.front) ns none aside → IsPermutation (aside ++ rest) new → AreHeld t a rest
    → IsPopped t.env (goal_place t.env) from popped (fronts (seen a ((k, i) ∷ rest))) → IsPopped t.env (goal_place t.env) from (front_of a i.front ∷ popped) (fronts (seen b new))
popped_grow t a b from k i ns rest none aside new found popped ready h l empty grew perm old p =
    let f = front_of a i.front in
    let g = t.env in
    let root = goal_place g in
    let P : List ℕ → Type 0 = λ q. count (begins q) (f ∷ popped) ≡ 0 in
    let Q : List ℕ → Type 0 = λ q. count (begins q) popped ≡ 0 in
    let q : IsPopped g root from (f ∷ popped) (fronts (seen a rest)) = popped_taken t a from k i rest found popped ready h l p in
    let grows = children g (least_of t) root f (picked (may t f) ns) in
    let here : count (begins f) popped ≡ 0 = All-head Q f (fronts (seen a rest)) p.apart in
    let young : All P (fronts grows) = subst (All P) (sym (fronts-children g (least_of t) root f (picked (may t f) ns))) (popped_grown g root from f (picked (may t f) ns) popped here) in
    let both : All P (fronts (grows ++ seen a rest)) = subst (All P) (sym (fronts-append grows (seen a rest))) (All-append P (fronts grows) (fronts (seen a rest)) young q.apart) in
    let moved : IsPermutation (fronts (grows ++ seen a rest)) (fronts (seen b new)) = IsPermutation-map (λ (x : ℕ × List ℕ). x.1) (grows ++ seen a rest) (seen b new) (grown_seen t a b f ns rest none aside new old empty grew perm) in
    record {
      distinct = q.distinct;
      each = q.each;
      apart = All-permutation P (fronts (grows ++ seen a rest)) (fronts (seen b new)) moved both;
    }

-- a tally when an item may have been popped to be held
pub tally_held : (t : Tables) (a : Arena) (w : ℕ) (h r : Option (ℕ × Item)) (old new : List (ℕ × Item)) (pops now : ℕ) → IsPermutation (with_held h old) (with_held r new) → ((n : ℕ) → pops ≡ capped (n + held_many h) → now ≡ capped (n + held_many r)) → AreTallied t a w h old pops → AreTallied t a w r new now
tally_held t a w h r old new pops now p counts y = record {
  popped = y.popped;
  counted = counts (length y.popped) y.counted;
  are = popped_moved t a w y.popped (with_held h old) (with_held r new) p y.are;
  none_lost = none_lost_moved t a y.popped (with_held h old) (with_held r new) p y.none_lost;
}

-- the held item was taken or grown
pub tally_stepped : (t : Tables) (a b : Arena) (w : ℕ) (h : Option (ℕ × Item)) (q : ℕ × Item) (old new : List (ℕ × Item)) (pops now : ℕ) → h ≡ Some q → now ≡ pops
    → ((popped : List (List ℕ)) → IsPopped t.env (goal_place t.env) w popped (fronts (seen a (q ∷ old))) → IsPopped t.env (goal_place t.env) w (front_of a q.1.front ∷ popped) (fronts (seen b new)))
    → ((popped : List (List ℕ)) → NoneLost t.env popped (fronts (seen a (q ∷ old))) → NoneLost t.env (front_of a q.1.front ∷ popped) (fronts (seen b new)))
    → AreTallied t a w h old pops → AreTallied t b w None new now
tally_stepped t a b w h q old new pops now is same step keep y =
    let here : AreTallied t a w (Some q) old pops = subst (λ (x : Option (ℕ × Item)). AreTallied t a w x old pops) is y in
    let counted = here.counted in
    record {
      popped = front_of a q.1.front ∷ here.popped;
      counted = omega (arith, same, counted);
      are = step here.popped here.are;
      none_lost = keep here.popped here.none_lost;
    }

-- at first nothing was popped
none_apart : (qs : List (List ℕ)) → All (λ q. count (begins q) [] ≡ 0) qs
none_apart [] = All-nil (λ (q : List ℕ). count (begins q) [] ≡ 0)
none_apart (q ∷ qs) = All-cons (λ (x : List ℕ). count (begins x) [] ≡ 0) q qs refl (none_apart qs)

pub tally_first : (t : Tables) (a : Arena) (items : List (ℕ × Item)) (pops : ℕ) → IsAt t a 0 items [] → pops ≡ 0 → AreTallied t a 0 None items pops
tally_first t a items pops at none = record {
  popped = [];
  counted = omega (arith, none);
  are = record { distinct = λ f. omega arith; each = All-nil (HasCompletion t.env (goal_place t.env) 0); apart = none_apart (fronts (seen a items)) };
  none_lost = none_lost_first t a items at;
}

-- within a greater weight
pub tally_within : (t : Tables) (a : Arena) (v w : ℕ) (h : Option (ℕ × Item)) (items : List (ℕ × Item)) (pops : ℕ) → v ≤ w → AreTallied t a v h items pops → AreTallied t a w h items pops
tally_within t a v w h items pops l y = record { popped = y.popped; counted = y.counted; are = popped_within t v w y.popped (fronts (seen a (with_held h items))) l y.are; none_lost = y.none_lost }

held_few : (h : Option (ℕ × Item)) → held_many h ≤ 1
held_few None = omega arith
held_few (Some q) = omega arith

-- so there are no more pops than one, and the nodes and one each of the terms within the weight
pub tally_few : (t : Tables) (a : Arena) (w : ℕ) (h : Option (ℕ × Item)) (items : List (ℕ × Item)) (pops : ℕ) → AreTallied t a w h items pops → w ≤ t.env.limit → (es : List Expr) → ((e : Expr) → IsInhabitant t.env e → total_of t.env e ≤ w → Stands e es) → pops ≤ 1 + total (λ e. length (prefix_code e) + 1) es
tally_few t a w h items pops y inside es all =
    let counted = y.counted in
    let root = goal_place t.env in
    let each : (e : Expr) → fits_place t.env root e ≡ true → weigh t.env root e ≤ w → 1 ≤ count (expr_eq e) es = λ e fit l. all e (and_from (fits_place t.env root e) (nat_le (weigh t.env root e) t.env.limit) fit (le-leb (weigh t.env root e) t.env.limit (omega (arith, l, inside)))) l in
    let few = pops_bound t.env root w y.popped (fronts (seen a (with_held h items))) y.are es each in
    omega (arith, counted, few, held_few h)

-- a count that stays at its top
many_or_full : (top n few pops : ℕ) → pops ≡ min n top → few ≤ n → (few ≤ pops) ⊎ (pops ≡ top)
many_or_full top n few pops is l = elim (cases_lt n top) [
  | inl less ↦ inl (omega (arith, is, l, less))
  | inr full ↦ inr (omega (arith, is, full))
]

-- and no fewer than terms given
pub tally_many : (t : Tables) (a : Arena) (from at w : ℕ) (h : Option (ℕ × Item)) (items : List (ℕ × Item)) (found : List ℕ) (pops : ℕ) → AreTallied t a w h items pops → IsAt t a at (with_held h items) found → from ≤ at → (es : List Expr) → AreGiven (record { parts = t.env; from = from }) es → (length es ≤ pops) ⊎ (pops ≡ 18446744073709551615)
tally_many t a from at w h items found pops y search up es given =
    let few : length es ≤ length y.popped = few_codes t.env (goal_place t.env) es y.popped (given_fit t.env from es given.given) given.distinct (given_popped t a from at (with_held h items) found y.popped search up y.none_lost es given.given) in
    many_or_full 18446744073709551615 (length y.popped + held_many h) (length es) pops y.counted (omega (arith, few))
