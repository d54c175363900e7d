-- From one level of a search to the next.
use Rattle.std.proofs.Common.{◌≡◌, ◌≢◌, inl, inr, ℕ, ◌+◌, ◌<◌, ◌≤◌, max, true, ◌==◌, List, [], ◌∷◌, length, map, Option, Some, None, All, refl, sym, ap, subst, ◌∙◌, arith}
use Rattle.std.proofs.lemmas.Bool.{and_from, eq-eqb, cases_lt}
use Rattle.std.proofs.lemmas.List.Elements.{All-head, All-tail}
use Rattle.std.specs.List.Sorted.{IsPermutation}
use Rattle.terms.specs.Count.{count, once_if, expr_eq}
use Rattle.terms.specs.Expr.{Expr}
use Rattle.terms.specs.Listing.{IsNextLevel, Skipped, level_of, IsNextWeight}
use Rattle.terms.specs.Place.{HasRoom, goal_place, fits_place, weigh}
use Rattle.terms.specs.View.{expr}
use Rattle.terms.specs.declared.parts.Parts.{Parts}
use Rattle.terms.specs.declared.term.Term.{Term}
use Rattle.terms.proofs.Forests.{whole}
use Rattle.terms.proofs.Inhabitants.{level-within}
use Rattle.terms.proofs.Valid.{valid-limit}
use Rattle.partial_terms.specs.Fronts.{reading}
use Rattle.reconstruction.specs.Tabled.{front_of}
use Rattle.reconstruction.specs.Levelled.{AreComplete, IsAt, IsLeastHeld, with_held}
use Rattle.partial_terms.specs.Built.{IsTermOf, AreTermsOf}
use Rattle.reconstruction.specs.Rebuilding.{IsOn, HoldsKey, IsBegun}
use Rattle.reconstruction.specs.declared.item.Arena.{Arena}
use Rattle.reconstruction.specs.declared.item.Item.{Item}
use Rattle.reconstruction.specs.declared.tables.Tables.{Tables}
use Rattle.partial_terms.proofs.Division.{code-whole}
use Rattle.partial_terms.proofs.Keys.{weight_of, OneTerm, one_read}
use Rattle.partial_terms.proofs.Levels.{AreTerms}
use Rattle.reconstruction.proofs.Making.{moved_at}
use Rattle.reconstruction.proofs.Next.{at_next, level_each}
use Rattle.reconstruction.proofs.Turning.{Started, started, ended}

skipped_through : (g : Parts) (a b c : ℕ) → Skipped g a b → Skipped g b c → Skipped g a c
skipped_through g a b c first then w low high e = elim (cases_lt w b) [
  | inl below ↦ first w low below e
  | inr above ↦ then w above high e
]

-- a term that is read at a weight has that weight
term_weighs : (g : Parts) (k : ℕ) (f : List ℕ) (e : Expr) → reading g (goal_place g) f ≡ whole k → IsTermOf g f e → weigh g (goal_place g) e ≡ k
term_weighs g k f e is t = ap weight_of (sym (code-whole g (goal_place g) e t.fit) ∙ ap (reading g (goal_place g)) (sym t.coded) ∙ is)

-- terms of fronts that are read at a weight
weighed : (g : Parts) (k : ℕ) (fs : List (List ℕ)) (es : List Expr) → All (λ f. reading g (goal_place g) f ≡ whole k) fs → AreTermsOf g fs es → AreTerms g (goal_place g) k fs es
weighed g k [] [] all h = tt
weighed g k [] (e ∷ es) all h = absurd h
weighed g k (f ∷ fs) [] all h = absurd h
weighed g k (f ∷ fs) (e ∷ es) all h =
    let P : List ℕ → Type 0 = λ x. reading g (goal_place g) x ≡ whole k in
    (h.0.coded, h.0.fit, term_weighs g k f e (All-head P f fs all) h.0, weighed g k fs es (All-tail P f fs all) h.1)

pub one_whole : (g : Parts) (k : ℕ) (f : List ℕ) → HasRoom (goal_place g) → reading g (goal_place g) f ≡ whole k → OneTerm g (goal_place g) k f
unfolding reading
one_whole g k f room is = one_read g (goal_place g) k f room is

-- a level of which a front was found has a member
found_met : (t : Tables) (a : Arena) (k x : ℕ) (items : List (ℕ × Item)) (found : List ℕ) → AreComplete t → IsAt t a k items (x ∷ found) → k ≤ t.env.limit → (e : Expr) × (level_of t.env k e ≡ true)
found_met t a k x items found ready h l =
    let P : List ℕ → Type 0 = λ f. reading t.env (goal_place t.env) f ≡ whole k in
    let root = goal_place t.env in
    let o : OneTerm t.env root k (front_of a x) = one_whole t.env k (front_of a x) (ready.least.room root ready.root) (All-head P (front_of a x) (map (front_of a) found) h.search.ended) in
    (o.term, level-within t.env k o.term l ∙ and_from (fits_place t.env root o.term) (weigh t.env root o.term == k) o.fit (eq-eqb (weigh t.env root o.term) k o.weight))

-- nothing is left below the level that was begun, nor below where the next is sought
skipped_to : (g : Parts) (from level : ℕ) → Skipped g from level → Skipped g from (max from level)
skipped_to g from level h w low high e = h w low (omega arith) e

-- the level that is made next
pub begun : (t : Tables) (a : Arena) (from level k : ℕ) (held now : Option (ℕ × Item)) (before items : List (ℕ × Item)) (found : List ℕ) → AreComplete t → IsAt t a (max from level) (with_held held before) found → IsOn t from level found
    → IsPermutation (with_held held before) (with_held now items) → IsLeastHeld now items → (found ≢ [] → k ≡ level) → (found ≡ [] → HoldsKey k now) → IsBegun t a from level k (with_held now items) found
begun t a from level k held now before items [] ready h on moved least going starting = go now moved least (starting refl)
  where
    go : (o : Option (ℕ × Item)) → IsPermutation (with_held held before) (with_held o items) → IsLeastHeld o items → HoldsKey k o → IsBegun t a from level k (with_held o items) []
    go None p l key = absurd key
    go (Some q) p l key =
        let s : Started t a (max from level) q.0 ((q.0, q.1) ∷ items) = started t a (max from level) q.0 q.1 (with_held held before) items ready h p l in
        let up = s.up in
        let here : IsBegun t a from level q.0 ((q.0, q.1) ∷ items) [] = record {
          at = s.at;
          up = omega (arith, up);
          past = omega (arith, up);
          within = s.within;
          skipped = skipped_through t.env from (max from level) q.0 (skipped_to t.env from level on.skipped) s.skipped;
          met = s.met;
        } in
        subst (λ n. IsBegun t a from level n (q ∷ items) []) key here
begun t a from level k held now before items (x ∷ found) ready h on moved least going starting =
    let some : x ∷ found ≢ [] = λ e. filled e in
    let same : k ≡ level = going some in
    let inside : level ≤ t.env.limit = on.within in
    let up : from ≤ level = on.begun some in
    let stands : max from level ≡ level = omega arith in
    let P : ℕ → Type 0 = λ n. IsAt t a n (with_held held before) (x ∷ found) in
    let there : IsAt t a level (with_held now items) (x ∷ found) = moved_at t a level (with_held held before) (with_held now items) (x ∷ found) (subst P stands h) moved in
    let here : IsBegun t a from level level (with_held now items) (x ∷ found) = record {
      at = there;
      up = up;
      past = omega arith;
      within = inside;
      skipped = on.skipped;
      met = found_met t a level x (with_held now items) found ready there inside;
    } in
    subst (λ n. IsBegun t a from level n (with_held now items) (x ∷ found)) (sym same) here
  where
    filled : x ∷ found ≡ [] → ⊥
    filled e = absurd (omega (arith, ap (λ (l : List ℕ). length l) e))

-- the same, over the list that the code has at hand
pub begun_by : (t : Tables) (a : Arena) (from level k : ℕ) (held now : Option (ℕ × Item)) (before items : List (ℕ × Item)) (found shown : List ℕ) → AreComplete t → IsAt t a (max from level) (with_held held before) found → IsOn t from level found
    → IsPermutation (with_held held before) (with_held now items) → IsLeastHeld now items → shown ≡ found → (shown ≢ [] → k ≡ level) → (shown ≡ [] → HoldsKey k now) → IsBegun t a from level k (with_held now items) found
begun_by t a from level k held now before items found shown ready h on moved least same going starting =
    begun t a from level k held now before items found ready h on moved least (λ some. going (λ none. some (sym same ∙ none))) (λ none. starting (same ∙ none))

-- where nothing is left
pub none_left : (t : Tables) (a : Arena) (from level : ℕ) (before items : List (ℕ × Item)) (found : List ℕ) → AreComplete t → IsAt t a (max from level) before found → IsOn t from level found → IsPermutation before items → found ≡ [] → items ≡ [] → Skipped t.env from (t.env.limit + 1)
none_left t a from level before items found ready h on moved none empty =
    let P : List ℕ → Type 0 = λ l. IsAt t a (max from level) before l in
    skipped_through t.env from (max from level) (t.env.limit + 1) (skipped_to t.env from level on.skipped) (ended t a (max from level) before items ready (subst P none h) moved empty)

-- a level that is being made
pub on_begun : (t : Tables) (a : Arena) (from level k : ℕ) (items : List (ℕ × Item)) (found now : List ℕ) → IsBegun t a from level k items found → IsOn t from k now
on_begun t a from level k items found now b = record { skipped = b.skipped; within = b.within; begun = λ some. b.up }

pub at_begun : (t : Tables) (a : Arena) (from k : ℕ) (items : List (ℕ × Item)) (found : List ℕ) → from ≤ k → IsAt t a k items found → IsAt t a (max from k) items found
at_begun t a from k items found up h = (let stands : k ≡ max from k = omega arith in subst (λ n. IsAt t a n items found) stands h)

pub next_weight_of : (t : Tables) (a : Arena) (from level k : ℕ) (items : List (ℕ × Item)) (found : List ℕ) → IsBegun t a from level k items found → IsNextWeight t.env from k
next_weight_of t a from level k items found b = record { after = b.up; within = b.within; before = b.skipped; some = b.met }

-- between two levels
pub on_next : (t : Tables) (k : ℕ) (found : List ℕ) → k ≤ t.env.limit → found ≡ [] → IsOn t (k + 1) k found
on_next t k found inside none = record { skipped = λ w low high e. absurd (omega (arith, low, high)); within = inside; begun = λ some. absurd (some none) }

-- a level that is whole
pub next_level : (t : Tables) (a b : Arena) (from level k : ℕ) (before items : List (ℕ × Item)) (begins found : List ℕ) (terms : List Term) → AreComplete t → IsBegun t a from level k before begins → IsAt t b k items found → All (λ q. k < q.0) items → AreTermsOf t.env (map (front_of b) found) (map expr terms)
    → IsNextLevel t.env from (record { weight = k; terms = terms })
next_level t a b from level k before items begins found terms ready started_at h above made =
    let each : (e : Expr) → count (expr_eq e) (map expr terms) ≡ once_if (level_of t.env k e) = level_each t b k items found (map expr terms) ready started_at.within h above (weighed t.env k (map (front_of b) found) (map expr terms) h.search.ended made) in
    let m = started_at.met in
    record {
      each = each;
      some = λ none. absurd (omega (arith, each m.0, ap once_if m.1, ap (λ (ts : List Term). count (expr_eq m.0) (map expr ts)) none));
      after = started_at.up;
      within = started_at.within;
      before = started_at.skipped;
    }

-- a whole level is left behind, and its fronts with it
pub at_after : (t : Tables) (a : Arena) (k : ℕ) (items : List (ℕ × Item)) (found now : List ℕ) → AreComplete t → IsAt t a k items found → All (λ q. k < q.0) items → now ≡ [] → IsAt t a (max (k + 1) k) items now
at_after t a k items found now ready h above none = (let stands : k + 1 ≡ max (k + 1) k = omega arith in subst (λ n. IsAt t a n items now) stands (subst (λ l. IsAt t a (k + 1) items l) (sym none) (at_next t a k items found ready h above)))

-- a level is within the limit of 10,000
pub below_top : (t : Tables) (k : ℕ) → AreComplete t → k ≤ t.env.limit → k + 1 < 4294967296
below_top t k ready l = (let low = valid-limit t.env ready.valid in omega (arith, low.1, l))

-- before the first level
pub on_first : (t : Tables) (found : List ℕ) → found ≡ [] → IsOn t 0 0 found
on_first t found none = record { skipped = λ w low high e. absurd (omega (arith, high)); within = omega arith; begun = λ some. absurd (some none) }
