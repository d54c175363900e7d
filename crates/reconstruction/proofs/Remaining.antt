-- No inhabitant is lost: it completes a front that is left, or its code was popped when it was whole.
use Rattle.std.proofs.Common.{◌≡◌, ℕ, ◌+◌, ◌<◌, ◌≤◌, nat_le, Bool, true, false, ◌==◌, List, [], ◌∷◌, ◌++◌, length, map, Some, All, refl, sym, ap, subst, ◌∙◌, arith, append-nil}
use Rattle.std.proofs.lemmas.Bool.{and_parts, and_from, eq-eqb, le-leb, lt-leb, leb-true}
use Rattle.std.proofs.lemmas.List.Elements.{All-head, All-tail, All-weaker}
use Rattle.std.specs.List.Sorted.{IsPermutation}
use Rattle.std.proofs.lemmas.List.Sorted.{IsPermutation-map}
use Rattle.terms.specs.Code.{prefix_code}
use Rattle.terms.specs.Count.{count, once_if, expr_eq, total}
use Rattle.terms.specs.Expr.{Expr}
use Rattle.terms.specs.Place.{Place, goal_place, fits_place, weigh, IsInhabitant, total_of}
use Rattle.terms.specs.Reading.{and_then, read}
use Rattle.terms.specs.declared.parts.Parts.{Parts}
use Rattle.terms.proofs.Forests.{whole}
use Rattle.terms.proofs.Standing.{count-permutation, expr_eq-refl}
use Rattle.partial_terms.specs.Fronts.{begins, same, reading}
use Rattle.reconstruction.specs.Levelled.{IsAt}
use Rattle.partial_terms.specs.Popped.{NoneLost}
use Rattle.partial_terms.specs.Search.{times_completed, fronts}
use Rattle.reconstruction.specs.Tabled.{places_of, front_of, stack_of, seen, IsHeld, AreHeld, AreGrown}
use Rattle.reconstruction.specs.declared.item.Arena.{Arena}
use Rattle.reconstruction.specs.declared.item.Item.{Item}
use Rattle.reconstruction.specs.declared.tables.Tables.{Tables}
use Rattle.partial_terms.proofs.Division.{Rest, rest_of, read-append, code-whole}
use Rattle.reconstruction.proofs.Growths.{seen-grown}
use Rattle.partial_terms.proofs.Keys.{read-end}
use Rattle.partial_terms.proofs.Levels.{eq-begins}
use Rattle.reconstruction.proofs.Making.{same_fronts}
use Rattle.partial_terms.proofs.Popping.{same-true, same-begins}
use Rattle.partial_terms.proofs.Pops.{swapped, total-below}

-- an inhabitant fits the goal within the limit
fits : (g : Parts) (e : Expr) → IsInhabitant g e → fits_place g (goal_place g) e ≡ true
fits g e h = (and_parts (fits_place g (goal_place g) e) (nat_le (total_of g e) g.limit) h).0

inside_limit : (g : Parts) (e : Expr) → IsInhabitant g e → weigh g (goal_place g) e ≤ g.limit
inside_limit g e h = leb-true (total_of g e) g.limit (and_parts (fits_place g (goal_place g) e) (nat_le (total_of g e) g.limit) h).1

-- the items in another order
pub none_lost_moved : (t : Tables) (a : Arena) (popped : List (List ℕ)) (old new : List (ℕ × Item)) → IsPermutation old new → NoneLost t.env popped (fronts (seen a old)) → NoneLost t.env popped (fronts (seen a new))
none_lost_moved t a popped old new p h e inside =
    let shown : IsPermutation (seen a old) (seen a new) = IsPermutation-map (λ (x : ℕ × Item). (x.0, front_of a x.1.front)) old new p in
    let moved : IsPermutation (fronts (seen a old)) (fronts (seen a new)) = IsPermutation-map (λ (x : ℕ × List ℕ). x.1) (seen a old) (seen a new) shown in
    let as_many : times_completed e (fronts (seen a new)) ≡ times_completed e (fronts (seen a old)) = count-permutation (λ f. begins f (prefix_code e)) (fronts (seen a old)) (fronts (seen a new)) moved in
    omega (arith, h e inside, as_many)

-- what was kept in vain changes nothing
pub none_lost_kept : (t : Tables) (a b : Arena) (popped : List (List ℕ)) (items : List (ℕ × Item)) → AreGrown a b → AreHeld t a items → NoneLost t.env popped (fronts (seen a items)) → NoneLost t.env popped (fronts (seen b items))
none_lost_kept t a b popped items s all h = subst (λ l. NoneLost t.env popped (fronts l)) (sym (seen-grown t a b s items all)) h

-- at first each inhabitant is still to come
pub none_lost_first : (t : Tables) (a : Arena) (items : List (ℕ × Item)) → IsAt t a 0 items [] → NoneLost t.env [] (fronts (seen a items))
none_lost_first t a items h e inside =
    let g = t.env in
    let one : times_completed e (fronts (seen a items)) + 0 ≡ once_if (nat_le 0 (weigh g (goal_place g) e)) = h.search.divided e (fits g e inside) (inside_limit g e inside) in
    omega (arith, one, ap once_if (le-leb 0 (weigh g (goal_place g) e) (omega arith)))

-- a whole front that begins the code of a term is that code
whole_code : (g : Parts) (root : Place) (w : ℕ) (f : List ℕ) (e : Expr) → reading g root f ≡ whole w → fits_place g root e ≡ true → begins f (prefix_code e) ≡ true → f ≡ prefix_code e
unfolding reading
whole_code g root w f e is fit h =
    let r : Rest f (prefix_code e) = rest_of f (prefix_code e) h in
    let last : read g w [] r.more ≡ whole (weigh g root e) = ap (λ o. and_then o (λ q. read g q.weight q.open_places r.more)) (sym is) ∙ sym (read-append g 0 (root ∷ []) f r.more) ∙ ap (reading g root) (sym r.is) ∙ code-whole g root e fit in
    let none : r.more ≡ [] = (read-end g w (weigh g root e) r.more last).0 in
    sym (r.is ∙ ap (λ m. f ++ m) none ∙ append-nil f)

same-refl : (f : List ℕ) → same f f ≡ true
same-refl [] = refl
same-refl (x ∷ f) = and_from (x == x) (same f f) (eq-eqb x x refl) (same-refl f)

-- a whole front is popped
pub none_lost_taken : (t : Tables) (a : Arena) (k : ℕ) (i : Item) (rest : List (ℕ × Item)) (popped : List (List ℕ)) → IsHeld t a k i → stack_of a i.stack ≡ []
    → NoneLost t.env popped (fronts (seen a ((k, i) ∷ rest))) → NoneLost t.env (front_of a i.front ∷ popped) (fronts (seen a rest))
none_lost_taken t a k i rest popped kept none h e inside = go (begins (front_of a i.front) (prefix_code e)) refl (h e inside)
  where
    is : reading t.env (goal_place t.env) (front_of a i.front) ≡ whole kept.weight
    is = kept.is ∙ ap (λ l. Some (record { weight = kept.weight; open_places = places_of t l })) none

    go : (b : Bool) → begins (front_of a i.front) (prefix_code e) ≡ b → 1 ≤ once_if b + times_completed e (fronts (seen a rest)) + count (same (prefix_code e)) popped
        → 1 ≤ times_completed e (fronts (seen a rest)) + (once_if (same (prefix_code e) (front_of a i.front)) + count (same (prefix_code e)) popped)
    go false q l = omega (arith, l)
    go true q l =
        let f_is : front_of a i.front ≡ prefix_code e = whole_code t.env (goal_place t.env) kept.weight (front_of a i.front) e is (fits t.env e inside) q in
        let one : same (prefix_code e) (front_of a i.front) ≡ true = ap (same (prefix_code e)) f_is ∙ same-refl (prefix_code e) in
        omega (arith, ap once_if one)

-- a front gives way to what grows from it
pub none_lost_grown : (t : Tables) (a b : Arena) (from : ℕ) (q : ℕ × Item) (old new : List (ℕ × Item)) (found : List ℕ) (popped : List (List ℕ)) → AreGrown a b → IsAt t a from (q ∷ old) found → IsAt t b from new found
    → NoneLost t.env popped (fronts (seen a (q ∷ old))) → NoneLost t.env (front_of a q.1.front ∷ popped) (fronts (seen b new))
none_lost_grown t a b from q old new found popped s before after h e inside =
    let one = before.search.divided e (fits t.env e inside) (inside_limit t.env e inside) in
    let two = after.search.divided e (fits t.env e inside) (inside_limit t.env e inside) in
    let level : times_completed e (map (front_of b) found) ≡ times_completed e (map (front_of a) found) = ap (times_completed e) (same_fronts a b s found before.inside) in
    omega (arith, one, two, level, h e inside)

-- a term of a weight that is left behind completes no front that is left, so its code was popped
pub given_popped : (t : Tables) (a : Arena) (from at : ℕ) (items : List (ℕ × Item)) (found : List ℕ) (popped : List (List ℕ)) → IsAt t a at items found → from ≤ at → NoneLost t.env popped (fronts (seen a items))
    → (es : List Expr) → All (λ e. IsInhabitant t.env e × (total_of t.env e < from)) es → All (λ e. 1 ≤ count (same (prefix_code e)) popped) es
given_popped t a from at items found popped search up none_lost es given = All-weaker (λ e. IsInhabitant t.env e × (total_of t.env e < from)) (λ e. 1 ≤ count (same (prefix_code e)) popped) (λ e h. here e h.0 h.1) es given
  where
    here : (e : Expr) → IsInhabitant t.env e → total_of t.env e < from → 1 ≤ count (same (prefix_code e)) popped
    here e inside low =
        let none = search.search.divided e (fits t.env e inside) (inside_limit t.env e inside) in
        omega (arith, none, none_lost e inside, ap once_if (lt-leb at (weigh t.env (goal_place t.env) e) (omega (arith, low, up))))

pub given_fit : (g : Parts) (from : ℕ) (es : List Expr) → All (λ e. IsInhabitant g e × (total_of g e < from)) es → All (λ e. fits_place g (goal_place g) e ≡ true) es
given_fit g from es given = All-weaker (λ e. IsInhabitant g e × (total_of g e < from)) (λ e. fits_place g (goal_place g) e ≡ true) (λ e h. fits g e h.0) es given

-- of terms that fit, those of one code are one term
same_term : (g : Parts) (root : Place) (f : List ℕ) (e x : Expr) → fits_place g root e ≡ true → fits_place g root x ≡ true → same (prefix_code e) f ≡ true → same (prefix_code x) f ≡ true → expr_eq e x ≡ true
same_term g root f e x fe fx he hx =
    let same_code : same (prefix_code x) (prefix_code e) ≡ true = ap (same (prefix_code x)) (same-true (prefix_code e) f he) ∙ hx in
    eq-begins g root e x fe fx ∙ same-begins (prefix_code x) (prefix_code e) same_code

others_same : (g : Parts) (root : Place) (f : List ℕ) (e : Expr) (es : List Expr) → fits_place g root e ≡ true → All (λ x. fits_place g root x ≡ true) es → same (prefix_code e) f ≡ true → count (λ x. same (prefix_code x) f) es ≤ count (expr_eq e) es
others_same g root f e [] fe fit he = omega arith
others_same g root f e (x ∷ es) fe fit he = go (same (prefix_code x) f) refl (others_same g root f e es fe (All-tail P x es fit) he)
  where
    P : Expr → Type 0
    P y = fits_place g root y ≡ true

    go : (b : Bool) → same (prefix_code x) f ≡ b → count (λ y. same (prefix_code y) f) es ≤ count (expr_eq e) es → once_if b + count (λ y. same (prefix_code y) f) es ≤ once_if (expr_eq e x) + count (expr_eq e) es
    go false h l = omega (arith, l)
    go true h l = omega (arith, l, ap once_if (same_term g root f e x fe (All-head P x es fit) he h))

-- so of different terms at most one has a code
one_coded : (g : Parts) (root : Place) (f : List ℕ) (es : List Expr) → All (λ x. fits_place g root x ≡ true) es → ((e : Expr) → count (expr_eq e) es ≤ 1) → count (λ x. same (prefix_code x) f) es ≤ 1
one_coded g root f [] fit once = omega arith
one_coded g root f (e ∷ es) fit once = go (same (prefix_code e) f) refl (one_coded g root f es (All-tail P e es fit) tail)
  where
    P : Expr → Type 0
    P y = fits_place g root y ≡ true

    tail : (x : Expr) → count (expr_eq x) es ≤ 1
    tail x = omega (arith, once x)

    go : (b : Bool) → same (prefix_code e) f ≡ b → count (λ y. same (prefix_code y) f) es ≤ 1 → once_if b + count (λ y. same (prefix_code y) f) es ≤ 1
    go false h l = omega (arith, l)
    go true h l = omega (arith, others_same g root f e es (All-head P e es fit) (All-tail P e es fit) h, once e, ap once_if (expr_eq-refl e))

length-below : (es : List Expr) (popped : List (List ℕ)) → All (λ e. 1 ≤ count (same (prefix_code e)) popped) es → length es ≤ total (λ e. count (same (prefix_code e)) popped) es
length-below [] popped each = omega arith
length-below (e ∷ es) popped each =
    let P : Expr → Type 0 = λ x. 1 ≤ count (same (prefix_code x)) popped in
    omega (arith, All-head P e es each, length-below es popped (All-tail P e es each))

total-ones : (fs : List (List ℕ)) → total (λ f. 1) fs ≡ length fs
total-ones [] = refl
total-ones (f ∷ fs) = omega (arith, total-ones fs)

-- different terms whose codes were popped are no more than what was popped
pub few_codes : (g : Parts) (root : Place) (es : List Expr) (popped : List (List ℕ)) → All (λ x. fits_place g root x ≡ true) es → ((e : Expr) → count (expr_eq e) es ≤ 1) → All (λ e. 1 ≤ count (same (prefix_code e)) popped) es → length es ≤ length popped
few_codes g root es popped fit once each =
    omega (arith, length-below es popped each, swapped (λ e f. same (prefix_code e) f) es popped, total-below (λ f. count (λ e. same (prefix_code e) f) es) (λ f. 1) popped (λ f. one_coded g root f es fit once), total-ones popped)
