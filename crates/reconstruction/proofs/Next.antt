-- From one level to the next, and what a whole level means.
use Rattle.std.proofs.Common.{◌≡◌, ◌≢◌, ◌⊎◌, inl, inr, ℕ, ◌+◌, ◌<◌, ◌≤◌, Bool, true, false, ◌&&◌, ◌==◌, List, [], ◌∷◌, length, map, All, refl, sym, ap, ◌∙◌, arith}
use Rattle.std.proofs.lemmas.Bool.{eq-eqb, and_from, cases_eq, ne_eqb}
use Rattle.std.proofs.lemmas.List.Elements.{All-nil, All-cons, All-head, All-tail}
use Rattle.terms.specs.Expr.{Expr}
use Rattle.terms.specs.Count.{count, once_if, expr_eq}
use Rattle.terms.specs.Listing.{level_of, Skipped}
use Rattle.terms.specs.Place.{goal_place, fits_place, weigh}
use Rattle.terms.proofs.Inhabitants.{level-within, level-none}
use Rattle.partial_terms.specs.Fronts.{IsItem}
use Rattle.reconstruction.specs.NumberedPlaces.{IsKept}
use Rattle.reconstruction.specs.Tabled.{least_of, front_of, seen}
use Rattle.reconstruction.specs.Levelled.{AreComplete, IsAt}
use Rattle.reconstruction.specs.declared.item.Item.{Item}
use Rattle.reconstruction.specs.declared.item.Arena.{Arena}
use Rattle.reconstruction.specs.declared.tables.Tables.{Tables}
use Rattle.partial_terms.proofs.Levels.{AreTerms, level_exact, next_search}
use Rattle.partial_terms.proofs.Popping.{completed}
use Rattle.partial_terms.proofs.Starts.{skipped, skip_search}

-- what holds of the keys of some items holds of what is seen of them
keys-seen : (a : Arena) (P : ℕ → Type 0) (items : List (ℕ × Item)) → All (λ q. P q.0) items → All (λ q. P q.0) (seen a items)
keys-seen a P [] all = All-nil (λ (q : ℕ × List ℕ). P q.0)
keys-seen a P (x ∷ items) all = All-cons (λ (q : ℕ × List ℕ). P q.0) (x.0, front_of a x.1.front) (seen a items) (All-head (λ (q : ℕ × Item). P q.0) x items all) (keys-seen a P items (All-tail (λ (q : ℕ × Item). P q.0) x items all))

-- below the least key there is nothing, so the search may go on there
pub at_skipped : (t : Tables) (a : Arena) (from k : ℕ) (items : List (ℕ × Item)) → AreComplete t → IsAt t a from items [] → from ≤ k → All (λ q. k ≤ q.0) items → IsAt t a k items []
at_skipped t a from k items ready h up above = record {
  all = h.all;
  inside = h.inside;
  search = skip_search t.env t.env.limit (IsKept t.env t.patterns) (least_of t) (goal_place t.env) ready.least ready.root from k (seen a items) up h.search (keys-seen a (λ x. k ≤ x) items above);
}

-- a whole level is left behind
pub at_next : (t : Tables) (a : Arena) (from : ℕ) (items : List (ℕ × Item)) (found : List ℕ) → AreComplete t → IsAt t a from items found → All (λ q. from < q.0) items → IsAt t a (from + 1) items []
at_next t a from items found ready h above = record {
  all = h.all;
  inside = All-nil (λ x. x < length a.fronts);
  search = next_search t.env t.env.limit (IsKept t.env t.patterns) (least_of t) (goal_place t.env) ready.least ready.root from (seen a items) (map (front_of a) found) h.search (keys-seen a (λ x. from < x) items above);
}

-- no level below the least key
pub none_skipped : (t : Tables) (a : Arena) (from k : ℕ) (items : List (ℕ × Item)) → AreComplete t → IsAt t a from items [] → All (λ q. k ≤ q.0) items → k ≤ t.env.limit + 1 → Skipped t.env from k
none_skipped t a from k items ready h above short w low high e =
    level-none t.env w e (go (fits_place t.env (goal_place t.env) e) refl (cases_eq (weigh t.env (goal_place t.env) e) w))
  where
    go : (b : Bool) → fits_place t.env (goal_place t.env) e ≡ b → (weigh t.env (goal_place t.env) e ≡ w) ⊎ (weigh t.env (goal_place t.env) e ≢ w) → b && (weigh t.env (goal_place t.env) e == w) ≡ false
    go false is c = refl
    go true is (inl same) = absurd (skipped t.env t.env.limit (IsKept t.env t.patterns) (least_of t) (goal_place t.env) ready.least ready.root from k (seen a items) h.search (keys-seen a (λ x. k ≤ x) items above) e is (omega (arith, same, high, short)) (omega (arith, same, low)) (omega (arith, same, high)))
    go true is (inr apart) = ne_eqb (weigh t.env (goal_place t.env) e) w apart

-- the terms of a whole level are all of its weight, each once
pub level_each : (t : Tables) (a : Arena) (from : ℕ) (items : List (ℕ × Item)) (found : List ℕ) (terms : List Expr) → AreComplete t → from ≤ t.env.limit → IsAt t a from items found → All (λ q. from < q.0) items → AreTerms t.env (goal_place t.env) from (map (front_of a) found) terms
    → (e : Expr) → count (expr_eq e) terms ≡ once_if (level_of t.env from e)
level_each t a from items found terms ready l h above made e =
    level_exact t.env t.env.limit (IsKept t.env t.patterns) (least_of t) (goal_place t.env) ready.least ready.root from (seen a items) (map (front_of a) found) terms l h.search (keys-seen a (λ x. from < x) items above) made e
    ∙ ap once_if (sym (level-within t.env from e l))

-- an item's key is the weight of some inhabitant, so a level at a key has a member
pub key_met : (t : Tables) (a : Arena) (from k : ℕ) (i : Item) (items : List (ℕ × Item)) (found : List ℕ) → AreComplete t → IsAt t a from ((k, i) ∷ items) found → (e : Expr) × (level_of t.env k e ≡ true)
key_met t a from k i items found ready h =
    let P : ℕ × List ℕ → Type 0 = λ x. IsItem t.env t.env.limit (least_of t) (goal_place t.env) x.0 x.1 in
    let item : IsItem t.env t.env.limit (least_of t) (goal_place t.env) k (front_of a i.front) = All-head P (k, front_of a i.front) (seen a items) h.search.items in
    let c = completed t.env t.env.limit (IsKept t.env t.patterns) (least_of t) (goal_place t.env) ready.least ready.root k (front_of a i.front) item in
    (c.0, level-within t.env k c.0 item.within ∙ and_from (fits_place t.env (goal_place t.env) c.0) (weigh t.env (goal_place t.env) c.0 == k) c.1 (eq-eqb (weigh t.env (goal_place t.env) c.0) k c.2))
