-- What a search says of its partial terms.
use Rattle.std.proofs.Common.{◌≡◌, ◌≢◌, inl, inr, ℕ, ◌≤◌, max, true, nat_le, ◌&&◌, ◌==◌, List, [], ◌∷◌, ◌++◌, length, map, Option, Some, None, All, refl, sym, ap, subst, ◌∙◌, arith}
use Rattle.std.proofs.lemmas.Bool.{and_parts, and_from, false≢true, eq-eqb, cases_lt, le-leb, lt-leb, leb-true}
use Rattle.std.proofs.lemmas.List.Elements.{All-nil, All-weaker}
use Rattle.terms.specs.Code.{prefix_code}
use Rattle.terms.specs.Count.{once_if}
use Rattle.terms.specs.Expr.{Expr}
use Rattle.terms.specs.Listing.{Skipped}
use Rattle.terms.specs.Place.{goal_place, fits_place, weigh, IsInhabitant, total_of}
use Rattle.terms.specs.declared.parts.Parts.{Parts}
use Rattle.terms.proofs.Forests.{whole}
use Rattle.terms.proofs.Standing.{count-append}
use Rattle.partial_terms.specs.Fronts.{begins, reading, IsItem}
use Rattle.reconstruction.specs.Levelled.{AreComplete, IsAt, with_held}
use Rattle.reconstruction.specs.Partial.{AreDivided, IsCode, least_completion, waiting_with}
use Rattle.reconstruction.specs.Rebuilding.{IsOn, held_shown}
use Rattle.partial_terms.specs.Search.{fronts}
use Rattle.reconstruction.specs.NumberedPlaces.{IsKept}
use Rattle.reconstruction.specs.Tabled.{front_of, least_of, seen}
use Rattle.reconstruction.specs.declared.item.Item.{Item}
use Rattle.reconstruction.specs.declared.item.Arena.{Arena}
use Rattle.reconstruction.specs.declared.tables.Tables.{Tables}
use Rattle.partial_terms.proofs.Division.{Rest, rest_of, key-below, code-whole}
use Rattle.partial_terms.proofs.Keys.{OneTerm}
use Rattle.partial_terms.proofs.Popping.{completed}
use Rattle.reconstruction.proofs.Rounds.{one_whole}

-- no completion is lighter than the key
lowest : (t : Tables) → AreComplete t → (k : ℕ) (f : List ℕ) → IsItem t.env t.env.limit (least_of t) (goal_place t.env) k f → (e : Expr) → IsInhabitant t.env e → begins f (prefix_code e) ≡ true → k ≤ total_of t.env e
lowest t ready k f item e inhabits starts =
    let g = t.env in
    let root = goal_place g in
    let both = and_parts (fits_place g root e) (nat_le (weigh g root e) g.limit) inhabits in
    let inside : weigh g root e ≤ g.limit = leb-true (weigh g root e) g.limit both.1 in
    let r : Rest f (prefix_code e) = rest_of f (prefix_code e) starts in
    let ends : reading g root (f ++ r.more) ≡ whole (weigh g root e) = ap (reading g root) (sym r.is) ∙ code-whole g root e both.0 in
    let low = key-below g g.limit (IsKept g t.patterns) (least_of t) root ready.least ready.root f r.more item.at (weigh g root e) item.is ends inside in
    subst (λ n. n ≤ weigh g root e) (sym item.keyed) low

-- an item's key is the least total of its completions
live : (t : Tables) → AreComplete t → (k : ℕ) (f : List ℕ) → IsItem t.env t.env.limit (least_of t) (goal_place t.env) k f → least_completion t.env f k
live t ready k f item =
    let g = t.env in
    let root = goal_place g in
    let c = completed g g.limit (IsKept g t.patterns) (least_of t) root ready.least ready.root k f item in
    let inside = item.within in
    let weighs = c.2 in
    record {
      term = c.0;
      member = (and_from (fits_place g root c.0) (nat_le (weigh g root c.0) g.limit) c.1 (le-leb (weigh g root c.0) g.limit (omega (arith, inside, weighs))), c.3);
      weighs = weighs;
      least = λ e m. lowest t ready k f item e m.0 m.1;
    }

shown_with : (a : Arena) (h : Option (ℕ × Item)) (items : List (ℕ × Item)) → waiting_with (held_shown a h) (seen a items) ≡ seen a (with_held h items)
shown_with a None items = refl
shown_with a (Some q) items = refl

pub all_live : (t : Tables) (a : Arena) (from : ℕ) (h : Option (ℕ × Item)) (items : List (ℕ × Item)) (found : List ℕ) → AreComplete t → IsAt t a from (with_held h items) found
    → All (λ (item : ℕ × List ℕ). least_completion t.env item.1 item.0) (waiting_with (held_shown a h) (seen a items))
all_live t a from h items found ready at =
    let P : ℕ × List ℕ → Type 0 = λ item. least_completion t.env item.1 item.0 in
    subst (All P) (sym (shown_with a h items)) (All-weaker (λ (q : ℕ × List ℕ). IsItem t.env t.env.limit (least_of t) (goal_place t.env) q.0 q.1) P (λ q is. live t ready q.0 q.1 is) (seen a (with_held h items)) at.search.items)

-- no inhabitant has a total from where levels are left up to the level that was begun
from_there : (g : Parts) (from level : ℕ) → Skipped g from level → (e : Expr) → IsInhabitant g e → nat_le (max from level) (total_of g e) ≡ nat_le from (total_of g e)
from_there g from level skipped e inhabits = elim (cases_lt (total_of g e) from) [
  | inl given ↦ lt-leb (max from level) (total_of g e) (omega (arith, given)) ∙ sym (lt-leb from (total_of g e) given)
  | inr later ↦ elim (cases_lt (total_of g e) level) [
    | inl below ↦ absurd (false≢true (sym (skipped (total_of g e) later below e) ∙ and_from (fits_place g (goal_place g) e && nat_le (total_of g e) g.limit) (total_of g e == total_of g e) inhabits (eq-eqb (total_of g e) (total_of g e) refl)))
    | inr above ↦ le-leb (max from level) (total_of g e) (omega (arith, later, above)) ∙ sym (le-leb from (total_of g e) later)
  ]
]

pub all_divided : (t : Tables) (a : Arena) (from level : ℕ) (h : Option (ℕ × Item)) (items : List (ℕ × Item)) (found : List ℕ) → IsAt t a (max from level) (with_held h items) found → Skipped t.env from level
    → AreDivided (record { parts = t.env; from = from }) (fronts (waiting_with (held_shown a h) (seen a items)) ++ map (front_of a) found)
all_divided t a from level h items found at skipped = subst (λ l. AreDivided (record { parts = t.env; from = from }) (fronts l ++ map (front_of a) found)) (sym (shown_with a h items)) here
  where
    here : AreDivided (record { parts = t.env; from = from }) (fronts (seen a (with_held h items)) ++ map (front_of a) found)
    here e inhabits =
        let root = goal_place t.env in
        let both = and_parts (fits_place t.env root e) (nat_le (weigh t.env root e) t.env.limit) inhabits in
        count-append (λ (f : List ℕ). begins f (prefix_code e)) (fronts (seen a (with_held h items))) (map (front_of a) found)
        ∙ at.search.divided e both.0 (leb-true (weigh t.env root e) t.env.limit both.1)
        ∙ ap once_if (from_there t.env from level skipped e inhabits)

code_at : (t : Tables) (k : ℕ) (f : List ℕ) → AreComplete t → k ≤ t.env.limit → reading t.env (goal_place t.env) f ≡ whole k → IsCode t.env k f
code_at t k f ready inside is =
    let root = goal_place t.env in
    let o : OneTerm t.env root k f = one_whole t.env k f (ready.least.room root ready.root) is in
    let weight = o.weight in
    record {
      term = o.term;
      inhabits = and_from (fits_place t.env root o.term) (nat_le (weigh t.env root o.term) t.env.limit) o.fit (le-leb (weigh t.env root o.term) t.env.limit (omega (arith, weight, inside)));
      weighs = weight;
      coded = o.coded;
    }

pub all_codes : (t : Tables) (a : Arena) (from level : ℕ) (items : List (ℕ × Item)) (found : List ℕ) → AreComplete t → IsAt t a (max from level) items found → IsOn t from level found → All (IsCode t.env level) (map (front_of a) found)
all_codes t a from level items [] ready at on = All-nil (IsCode t.env level)
all_codes t a from level items (x ∷ found) ready at on =
    let up : from ≤ level = on.begun filled in
    let same : max from level ≡ level = omega (arith, up) in
    All-weaker (λ (f : List ℕ). reading t.env (goal_place t.env) f ≡ whole (max from level)) (IsCode t.env level) (λ f is. code_at t level f ready on.within (is ∙ ap whole same)) (map (front_of a) (x ∷ found)) at.search.ended
  where
    filled : x ∷ found ≢ []
    filled e = absurd (omega (arith, ap (λ (l : List ℕ). length l) e))
