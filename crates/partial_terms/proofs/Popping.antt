-- The bound on pops.
use Rattle.std.proofs.Common.{◌≡◌, ℕ, ◌+◌, ◌≤◌, Bool, true, false, ◌==◌, List, [], ◌∷◌, ◌++◌, length, map, All, refl, sym, ap, ◌∙◌, arith, append-nil}
use Rattle.std.proofs.lemmas.Bool.{and_parts, and_from, false≢true, eq-eqb, eqb-true, le-leb}
use Rattle.std.proofs.lemmas.List.Elements.{All-head, All-tail, All-cons, All-nil}
use Rattle.std.specs.List.Sorted.{IsPermutation}
use Rattle.std.proofs.lemmas.List.Sorted.{All-permutation, IsPermutation-map}
use Rattle.terms.specs.Expr.{Expr}
use Rattle.terms.specs.declared.parts.Parts.{Parts}
use Rattle.terms.specs.Code.{prefix_code}
use Rattle.terms.specs.Count.{once_if, count, expr_eq, total}
use Rattle.terms.specs.Place.{Place, fits_place, weigh}
use Rattle.terms.specs.Reading.{Reading, and_then, read}
use Rattle.partial_terms.specs.Leasts.{AreLeast}
use Rattle.partial_terms.specs.Fronts.{begins, same, reading, IsItem}
use Rattle.partial_terms.specs.Search.{Queue, times_completed, fronts, IsSearch}
use Rattle.partial_terms.specs.Popped.{HasCompletion, IsPopped}
use Rattle.terms.proofs.Standing.{count-permutation, expr_eq-true}
use Rattle.terms.proofs.Forests.{whole}
use Rattle.partial_terms.proofs.Keys.{Reached, reached, OneTerm, one_read}
use Rattle.partial_terms.proofs.Division.{begins-append, begins-shorter, read-append}
use Rattle.partial_terms.proofs.Pops.{few_fronts, AllBegin, total-map}

-- no dead ends: each item has a completion of just its key
pub completed : (g : Parts) (limit : ℕ) (Kept : Place → Type 0) (least : Place → ℕ) (root : Place) → AreLeast g limit Kept least → Kept root → (k : ℕ) (f : List ℕ) → IsItem g limit least root k f → (e : Expr) × (fits_place g root e ≡ true) × (weigh g root e ≡ k) × (begins f (prefix_code e) ≡ true)
unfolding reading read
completed g limit Kept least root s kept k f item =
    let r : Reading = item.at in
    let m : Reached g least r.open_places = reached g limit Kept least s r.open_places (omega (arith, item.keyed, item.within)) in
    let ends : read g r.weight r.open_places m.numbers ≡ whole k =
    ap (λ c. read g r.weight c m.numbers) (sym (append-nil r.open_places)) ∙ ap (λ c. read g r.weight (r.open_places ++ []) c) (sym (append-nil m.numbers)) ∙ m.reads r.weight [] [] ∙ end (r.weight + total least r.open_places) (sym item.keyed) in
    let all : reading g root (f ++ m.numbers) ≡ whole k = read-append g 0 (root ∷ []) f m.numbers ∙ ap (λ o. and_then o (λ q. read g q.weight q.open_places m.numbers)) item.is ∙ ends in
    let o : OneTerm g root k (f ++ m.numbers) = one_read g root k (f ++ m.numbers) (s.room root kept) all in
    (o.term, o.fit, o.weight, ap (begins f) (sym o.coded) ∙ begins-append f m.numbers)
  where
    unread : (w : ℕ) → read g w [] [] ≡ whole w
    unread w = refl

    end : (w : ℕ) → w ≡ k → read g w [] [] ≡ whole k
    end w h = unread w ∙ ap whole h

count-weaker : {X : Type 0} (p q : X → Bool) (xs : List X) → ((x : X) → p x ≡ true → q x ≡ true) → count p xs ≤ count q xs
count-weaker p q [] h = omega arith
count-weaker p q (x ∷ xs) h = go (p x) (q x) (h x) (count-weaker p q xs h)
  where
    go : (a b : Bool) → (a ≡ true → b ≡ true) → count p xs ≤ count q xs → once_if a + count p xs ≤ once_if b + count q xs
    go true true i l = omega (arith, l)
    go true false i l = absurd (false≢true (i refl))
    go false true i l = omega (arith, l)
    go false false i l = omega (arith, l)

pub same-begins : (f x : List ℕ) → same f x ≡ true → begins f x ≡ true
same-begins [] [] h = refl
same-begins [] (y ∷ x) h = refl
same-begins (a ∷ f) [] h = absurd (false≢true h)
same-begins (a ∷ f) (b ∷ x) h = let hs = and_parts (a == b) (same f x) h in and_from (a == b) (begins f x) hs.0 (same-begins f x hs.1)

pub same-true : (f x : List ℕ) → same f x ≡ true → f ≡ x
same-true [] [] h = refl
same-true [] (y ∷ x) h = absurd (false≢true h)
same-true (a ∷ f) [] h = absurd (false≢true h)
same-true (a ∷ f) (b ∷ x) h = let hs = and_parts (a == b) (same f x) h in ap (λ n. n ∷ f) (eqb-true a b hs.0) ∙ ap (λ l. b ∷ l) (same-true f x hs.1)

begins-trans : (a b c : List ℕ) → begins a b ≡ true → begins b c ≡ true → begins a c ≡ true
begins-trans [] b c h k = refl
begins-trans (x ∷ a) [] c h k = absurd (false≢true h)
begins-trans (x ∷ a) (y ∷ b) [] h k = absurd (false≢true k)
begins-trans (x ∷ a) (y ∷ b) (z ∷ c) h k =
    let hs = and_parts (x == y) (begins a b) h in
    let ks = and_parts (y == z) (begins b c) k in
    and_from (x == z) (begins a c) (ap (λ n. n == z) (eqb-true x y hs.0) ∙ ks.0) (begins-trans a b c hs.1 ks.1)

not_shorter : (f : List ℕ) (n : ℕ) → begins (f ++ n ∷ []) f ≡ false
not_shorter [] n = refl
not_shorter (x ∷ f) n = rw (eq-eqb x x refl) (not_shorter f n)

-- what is left in the queue begins neither what was popped before nor this front
apart_rest : (f : List ℕ) (c : List ℕ) (popped : List (List ℕ)) (rest : List (List ℕ)) → begins f c ≡ true → count (λ q. begins q c) rest ≡ 0 → All (λ q. count (begins q) popped ≡ 0) rest → All (λ q. count (begins q) (f ∷ popped) ≡ 0) rest
apart_rest f c popped [] starts none before = All-nil (λ (q : List ℕ). count (begins q) (f ∷ popped) ≡ 0)
apart_rest f c popped (q ∷ rest) starts none before =
    All-cons (λ (x : List ℕ). count (begins x) (f ∷ popped) ≡ 0) q rest (go (begins q f) refl (All-head (λ (x : List ℕ). count (begins x) popped ≡ 0) q rest before))
    (apart_rest f c popped rest starts (omega (arith, none)) (All-tail (λ (x : List ℕ). count (begins x) popped ≡ 0) q rest before))
  where
    go : (b : Bool) → begins q f ≡ b → count (begins q) popped ≡ 0 → once_if b + count (begins q) popped ≡ 0
    go false h z = omega (arith, z)
    go true h z = absurd (omega (arith, none, ap once_if (begins-trans q f c h starts)))

-- a pop
pub popped_more : (g : Parts) (limit : ℕ) (Kept : Place → Type 0) (least : Place → ℕ) (root : Place) → AreLeast g limit Kept least → Kept root → (from w k : ℕ) (f : List ℕ) (queue rest : Queue) (level popped : List (List ℕ)) → from ≤ k → k ≤ w
    → IsSearch g limit least root from queue level → IsPermutation queue ((k, f) ∷ rest) → IsPopped g root w popped (fronts queue) → IsPopped g root w (f ∷ popped) (fronts rest)
popped_more g limit Kept least root s kept from w k f queue rest level popped low high search same_items p =
    let P : ℕ × List ℕ → Type 0 = λ q. IsItem g limit least root q.0 q.1 in
    let item : IsItem g limit least root k f = All-head P (k, f) rest (All-permutation P queue ((k, f) ∷ rest) same_items search.items) in
    let c = completed g limit Kept least root s kept k f item in
    let e : Expr = c.0 in
    let moved = IsPermutation-map (λ i. i.1) queue ((k, f) ∷ rest) same_items in
    let apart = All-permutation (λ q. count (begins q) popped ≡ 0) (fronts queue) (fronts ((k, f) ∷ rest)) moved p.apart in
    let here : count (begins f) popped ≡ 0 = All-head (λ (q : List ℕ). count (begins q) popped ≡ 0) f (fronts rest) apart in
    let one : times_completed e (fronts queue) + times_completed e level ≡ 1 = search.divided e c.1 (omega (arith, c.2, item.within)) ∙ ap once_if (le-leb from (weigh g root e) (omega (arith, c.2))) in
    let split : times_completed e (fronts ((k, f) ∷ rest)) ≡ times_completed e (fronts queue) = count-permutation (λ x. begins x (prefix_code e)) (fronts queue) (fronts ((k, f) ∷ rest)) moved in
    let none : times_completed e (fronts rest) ≡ 0 = omega (arith, one, split, ap once_if c.3) in
    record {
      distinct = λ x. once x (same x f) refl here (p.distinct x);
      each = All-cons (HasCompletion g root w) f popped (record { term = e; fit = c.1; within = omega (arith, c.2); starts = c.3 }) p.each;
      apart = apart_rest f (prefix_code e) popped (fronts rest) c.3 none (All-tail (λ (q : List ℕ). count (begins q) popped ≡ 0) f (fronts rest) apart);
    }
  where
    once : (x : List ℕ) (b : Bool) → same x f ≡ b → count (begins f) popped ≡ 0 → count (same x) popped ≤ 1 → once_if b + count (same x) popped ≤ 1
    once x false h z l = omega (arith, l)
    once x true h z l = omega (arith, z, count-weaker (same x) (begins f) popped (λ y q. ap (λ a. begins a y) (sym (same-true x f h)) ∙ same-begins x y q))

-- the fronts that grow from what was just popped are new
pub popped_grown : (g : Parts) (root : Place) (w : ℕ) (f : List ℕ) (ns : List ℕ) (popped : List (List ℕ)) → count (begins f) popped ≡ 0 → All (λ q. count (begins q) (f ∷ popped) ≡ 0) (map (λ n. f ++ n ∷ []) ns)
popped_grown g root w f [] popped h = All-nil (λ (q : List ℕ). count (begins q) (f ∷ popped) ≡ 0)
popped_grown g root w f (n ∷ ns) popped h =
    All-cons (λ (q : List ℕ). count (begins q) (f ∷ popped) ≡ 0) (f ++ n ∷ []) (map (λ m. f ++ m ∷ []) ns)
    (omega (arith, h, ap once_if (not_shorter f n), count-weaker (begins (f ++ n ∷ [])) (begins f) popped (λ x q. begins-shorter f n x q)))
    (popped_grown g root w f ns popped h)

count_member : (e : Expr) (p : Expr → Bool) (es : List Expr) → p e ≡ true → 1 ≤ count (expr_eq e) es → 1 ≤ count p es
count_member e p es h l = omega (arith, l, count-weaker (expr_eq e) p es (λ x q. ap p (sym (expr_eq-true e x q)) ∙ h))

count_codes : (f : List ℕ) (es : List Expr) → count (λ c. begins f c) (map prefix_code es) ≡ count (λ e. begins f (prefix_code e)) es
count_codes f [] = refl
count_codes f (e ∷ es) = ap (λ n. once_if (begins f (prefix_code e)) + n) (count_codes f es)

all_begin : (g : Parts) (root : Place) (w : ℕ) (popped : List (List ℕ)) (es : List Expr) → ((e : Expr) → fits_place g root e ≡ true → weigh g root e ≤ w → 1 ≤ count (expr_eq e) es) → All (HasCompletion g root w) popped → AllBegin popped (map prefix_code es)
all_begin g root w [] es h each = tt
all_begin g root w (f ∷ popped) es h each =
    let c : HasCompletion g root w f = All-head (HasCompletion g root w) f popped each in
    (omega (arith, count_codes f es, count_member c.term (λ e. begins f (prefix_code e)) es c.starts (h c.term c.fit c.within)), all_begin g root w popped es h (All-tail (HasCompletion g root w) f popped each))

-- of fronts that were popped there are no more than nodes and one each in the terms within the weight
pub pops_bound : (g : Parts) (root : Place) (w : ℕ) (popped queue : List (List ℕ)) → IsPopped g root w popped queue → (es : List Expr) → ((e : Expr) → fits_place g root e ≡ true → weigh g root e ≤ w → 1 ≤ count (expr_eq e) es) → length popped ≤ total (λ e. length (prefix_code e) + 1) es
pops_bound g root w popped queue p es h = omega (arith, few_fronts popped (map prefix_code es) p.distinct (all_begin g root w popped es h p.each), total-map (λ c. length c + 1) prefix_code es)
