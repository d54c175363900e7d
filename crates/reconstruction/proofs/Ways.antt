-- What the edges of a state add, one after the other.
use Rattle.std.proofs.Common.{◌≡◌, inl, inr, ℕ, zero, suc, ◌+◌, ◌*◌, ◌<◌, ◌≤◌, Bool, true, false, ◌&&◌, ◌==◌, cond, List, [], ◌∷◌, ◌++◌, length, get_or, slice_get, Option, Some, None, refl, sym, ap, subst, ◌∙◌, arith, append_assoc, append-nil}
use Rattle.std.proofs.lemmas.Bool.{eq-eqb, ne_eqb, cases_eq}
use Rattle.std.proofs.lemmas.Option.{slice_get-get_or}
use Rattle.terms.specs.Count.{once_if, count}
use Rattle.terms.specs.Weights.{coercion_weight}
use Rattle.terms.proofs.Standing.{count-append}
use Rattle.edges.specs.Edges.{Edge}
use Rattle.reconstruction.specs.Tabled.{front_of, may, picked, IsParent, Grew}
use Rattle.reconstruction.specs.Totals.{declared_in, lower_in}
use Rattle.reconstruction.specs.Usable.{IsFloor}
use Rattle.reconstruction.specs.Ways.{edge_at, numbers_where, numbers_of_head, head_numbers, way_numbers, way_numbers_by, often, IsHeadBy, IsWayBy, IsWayOf}
use Rattle.reconstruction.specs.declared.item.Item.{Item}
use Rattle.reconstruction.specs.declared.item.Arena.{Arena}
use Rattle.reconstruction.specs.declared.item.Parent.{Parent}
use Rattle.reconstruction.specs.declared.tables.Tables.{Tables}
use Rattle.reconstruction.proofs.Children.{too_heavy}
use Rattle.reconstruction.proofs.Growths.{front-same, grew-then, picked-append, picked-none, picked-one}

-- the same numbers
pub grew-as : (t : Tables) (a b : Arena) (f ns ms : List ℕ) (old new : List (ℕ × Item)) → ns ≡ ms → Grew t a b f ms old new → Grew t a b f ns old new
grew-as t a b f ns ms old new same h = subst (λ l. Grew t a b f l old new) (sym same) h

-- more numbers after others
pub grew-more : (t : Tables) (a b c : Arena) (p : Parent) (ns ms both : List ℕ) (old mid new : List (ℕ × Item)) → IsParent t a p → Grew t a b (front_of a p.front) ns old mid → Grew t b c (front_of b p.front) ms mid new → both ≡ ns ++ ms → Grew t a c (front_of a p.front) both old new
grew-more t a b c p ns ms both old mid new parent h k same =
    let here : Grew t b c (front_of a p.front) ms mid new = subst (λ f. Grew t b c f ms mid new) (front-same t a b p h.grown parent) k in
    grew-as t a c (front_of a p.front) both (ns ++ ms) old new same (grew-then t a b c (front_of a p.front) ns ms old mid new h here)

pub where-nil : (f : Edge → List ℕ) (i : ℕ) → numbers_where f i [] ≡ []
unfolding numbers_where
where-nil f i = refl

where-cons : (f : Edge → List ℕ) (i : ℕ) (e : Edge) (es : List Edge) → numbers_where f i (e ∷ es) ≡ cond (e.state == i) (f e) [] ++ numbers_where f i es
unfolding numbers_where
where-cons f i e es = refl

pub where-append : (f : Edge → List ℕ) (i : ℕ) (xs ys : List Edge) → numbers_where f i (xs ++ ys) ≡ numbers_where f i xs ++ numbers_where f i ys
unfolding numbers_where
where-append f i [] ys = refl
where-append f i (e ∷ xs) ys = ap (λ l. cond (e.state == i) (f e) [] ++ l) (where-append f i xs ys) ∙ sym (append_assoc (cond (e.state == i) (f e) []) (numbers_where f i xs) (numbers_where f i ys))

-- what one edge adds
pub where-one : (f : Edge → List ℕ) (i : ℕ) (e : Edge) → numbers_where f i (e ∷ []) ≡ cond (e.state == i) (f e) []
where-one f i e = where-cons f i e [] ∙ ap (λ l. cond (e.state == i) (f e) [] ++ l) (where-nil f i) ∙ append-nil (cond (e.state == i) (f e) [])

-- the edge of a number
pub edge-get : (es : List Edge) (m : ℕ) → m < length es → slice_get es m ≡ Some (edge_at es m)
edge-get es m low = slice_get-get_or es m (record { state = 0; source = None; weight = 0; tails = [] }) low

-- how often a number is added
pub where-most : (f : Edge → List ℕ) (i x : ℕ) (q : Edge → Bool) (es : List Edge) → ((m : ℕ) (e : Edge) → slice_get es m ≡ Some e → e.state ≡ i → often x (f e) ≤ once_if (q e)) → often x (numbers_where f i es) ≤ count (λ e. (e.state == i) && q e) es
where-most f i x q [] h = (let e = ap (often x) (where-nil f i) in omega (arith, e))
where-most f i x q (e ∷ es) h =
    let r = where-most f i x q es (λ m y is. h (suc m) y is) in
    let c = ap (often x) (where-cons f i e es) ∙ count-append (λ m. m == x) (cond (e.state == i) (f e) []) (numbers_where f i es) in
    elim (cases_eq e.state i) [
      | inl here ↦ (
          let yes = eq-eqb e.state i here in
          let a : often x (cond (e.state == i) (f e) []) ≡ often x (f e) = ap (λ b. often x (cond b (f e) [])) yes in
          let b : once_if ((e.state == i) && q e) ≡ once_if (q e) = ap (λ b. once_if (b && q e)) yes in
          let l = h 0 e refl here in
          omega (arith, r, c, a, b, l))
      | inr other ↦ (
          let a : often x (cond (e.state == i) (f e) []) ≡ 0 = ap (λ b. often x (cond b (f e) [])) (ne_eqb e.state i other) in
          omega (arith, r, c, a))
    ]

pub where-some : (f : Edge → List ℕ) (i x m : ℕ) (e : Edge) (es : List Edge) → slice_get es m ≡ Some e → e.state ≡ i → often x (f e) ≤ often x (numbers_where f i es)
where-some f i x m e [] is here = cc
where-some f i x zero e (y ∷ es) is here =
    let c = ap (often x) (where-cons f i y es) ∙ count-append (λ m. m == x) (cond (y.state == i) (f y) []) (numbers_where f i es) in
    let same : y ≡ e = cc in
    let a : often x (cond (y.state == i) (f y) []) ≡ often x (f e) = ap (λ b. often x (cond b (f y) [])) (eq-eqb y.state i (ap (λ (z : Edge). z.state) same ∙ here)) ∙ ap (λ z. often x (f z)) same in
    omega (arith, c, a)
where-some f i x (suc m) e (y ∷ es) is here =
    let c = ap (often x) (where-cons f i y es) ∙ count-append (λ m. m == x) (cond (y.state == i) (f y) []) (numbers_where f i es) in
    let r = where-some f i x m e es is here in
    omega (arith, c, r)

-- a number that no edge of the state adds
pub where-zero : (f : Edge → List ℕ) (i x : ℕ) (es : List Edge) → ((m : ℕ) (e : Edge) → slice_get es m ≡ Some e → e.state ≡ i → often x (f e) ≡ 0) → often x (numbers_where f i es) ≡ 0
where-zero f i x [] h = ap (often x) (where-nil f i)
where-zero f i x (e ∷ es) h =
    let r = where-zero f i x es (λ m y is. h (suc m) y is) in
    let c = ap (often x) (where-cons f i e es) ∙ count-append (λ m. m == x) (cond (e.state == i) (f e) []) (numbers_where f i es) in
    elim (cases_eq e.state i) [
      | inl here ↦ (
          let a : often x (cond (e.state == i) (f e) []) ≡ often x (f e) = ap (λ b. often x (cond b (f e) [])) (eq-eqb e.state i here) in
          let z = h 0 e refl here in
          omega (arith, r, c, a, z))
      | inr other ↦ (
          let a : often x (cond (e.state == i) (f e) []) ≡ 0 = ap (λ b. often x (cond b (f e) [])) (ne_eqb e.state i other) in
          omega (arith, r, c, a))
    ]

-- no member passes
none-pass : {X : Type 0} (p : X → Bool) (xs : List X) → ((n : ℕ) (y : X) → slice_get xs n ≡ Some y → p y ≡ true → ⊥) → count p xs ≡ 0
none-pass {X} p [] gone = refl
none-pass {X} p (y ∷ ys) gone = at (p y) refl (none-pass p ys (λ n z is. gone (suc n) z is))
  where
    at : (b : Bool) → p y ≡ b → count p ys ≡ 0 → once_if (p y) + count p ys ≡ 0
    at true e rest = absurd (gone 0 y refl e)
    at false e rest = (let z : once_if (p y) ≡ 0 = ap once_if e in omega (arith, z, rest))

-- where any two members that pass stand at one place at most one passes
pub few-pass : {X : Type 0} (p : X → Bool) (xs : List X) → ((m n : ℕ) (x y : X) → slice_get xs m ≡ Some x → slice_get xs n ≡ Some y → p x ≡ true → p y ≡ true → m ≡ n) → count p xs ≤ 1
few-pass {X} p [] h = omega arith
few-pass {X} p (x ∷ xs) h = go (p x) refl (few-pass p xs (λ m n a b am bn pa pb. (let s = h (suc m) (suc n) a b am bn pa pb in omega (arith, s))))
  where
    go : (b : Bool) → p x ≡ b → count p xs ≤ 1 → once_if (p x) + count p xs ≤ 1
    go true e rest =
        let one : once_if (p x) ≡ 1 = ap once_if e in
        let gone = none-pass p xs (λ n y is pass. (let s = h 0 (suc n) x y refl is e pass in absurd (omega (arith, s)))) in
        omega (arith, one, gone)
    go false e rest = (let z : once_if (p x) ≡ 0 = ap once_if e in omega (arith, z, rest))

-- edges of which no number passes
where-idle : (ok : ℕ → Bool) (f : Edge → List ℕ) (i : ℕ) (es : List Edge) → ((m : ℕ) (e : Edge) → slice_get es m ≡ Some e → e.state ≡ i → picked ok (f e) ≡ []) → picked ok (numbers_where f i es) ≡ []
where-idle ok f i [] h = ap (picked ok) (where-nil f i) ∙ picked-none ok
where-idle ok f i (e ∷ es) h =
    let first : picked ok (cond (e.state == i) (f e) []) ≡ [] = elim (cases_eq e.state i) [
      | inl here ↦ ap (λ b. picked ok (cond b (f e) [])) (eq-eqb e.state i here) ∙ h 0 e refl here
      | inr other ↦ ap (λ b. picked ok (cond b (f e) [])) (ne_eqb e.state i other) ∙ picked-none ok
    ] in
    ap (picked ok) (where-cons f i e es) ∙ picked-append ok (cond (e.state == i) (f e) []) (numbers_where f i es) ∙ ap (λ l. l ++ picked ok (numbers_where f i es)) first ∙ where-idle ok f i es (λ m x is. h (suc m) x is)

-- a head that is above the limit may not come to a term
pub head-idle : (t : Tables) (a : Arena) (p : Parent) (step w : ℕ) (o : Option ℕ) (tails : List ℕ) → IsParent t a p → IsHeadBy t p.place step o w tails → ((k : ℕ) → o ≡ Some k → t.env.limit < p.base + (w + step)) → picked (may t (front_of a p.front)) (numbers_of_head o) ≡ []
head-idle t a p step w None tails parent turn heavy = picked-none (may t (front_of a p.front))
head-idle t a p step w (Some k) tails parent turn heavy =
    picked-one (may t (front_of a p.front)) (2 * k + 1) ∙ ap (λ b. cond b ((2 * k + 1) ∷ []) []) (too_heavy t a p (2 * k + 1) (w + step) _ parent turn.head (heavy k refl))

-- nor the heads of an edge whose floor is above it
pub way-idle : (t : Tables) (a : Arena) (p : Parent) (m : ℕ) (e : Edge) → IsParent t a p → IsWayOf t p.place m e → IsFloor t.env t.edges t.totals m e (get_or t.floors m 0) → t.env.limit < p.base + get_or t.floors m 0 → picked (may t (front_of a p.front)) (way_numbers t.env t.edges e) ≡ []
way-idle t a p m e parent way floor heavy = go (lower_in t.env e.source e.tails) refl way
  where
    go : (o : Option ℕ) → lower_in t.env e.source e.tails ≡ o → IsWayBy t p.place m e o → picked (may t (front_of a p.front)) (way_numbers_by t.env t.edges e o) ≡ []
    go None is turn = head-idle t a p 0 (get_or t.totals m 0) (declared_in t.env e.source) e.tails parent turn (λ k declared. (let low = floor.head k declared in omega (arith, heavy, low)))
    go (Some lower) is turns = where-idle (may t (front_of a p.front)) (head_numbers t.env) lower t.edges (λ n f at here. (
        head-idle t a p (coercion_weight t.env) (get_or t.totals n 0) (declared_in t.env f.source) f.tails parent (turns n f at here)
        (λ k declared. (let low = floor.under lower n k f is at here declared in omega (arith, heavy, low)))))
