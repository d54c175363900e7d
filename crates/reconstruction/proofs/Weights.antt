-- The numbers of the states give the least weight of each place that a state describes.
use Rattle.std.proofs.Common.{◌≡◌, ℕ, zero, suc, ◌+◌, ◌<◌, ◌≤◌, Bool, true, false, ◌&&◌, ◌==◌, cond, List, [], ◌∷◌, length, slice_get, get_or, Option, Some, None, refl, sym, ap, subst, ◌∙◌, arith}
use Rattle.std.proofs.lemmas.Bool.{and_parts, and_from, false≢true, eq-eqb, eqb-true}
use Rattle.std.proofs.lemmas.Option.{get_or_from_slice_get}
use Rattle.terms.specs.Expr.{Expr}
use Rattle.terms.specs.Place.{Place, fits_place, weigh}
use Rattle.terms.specs.declared.parts.Parts.{Parts}
use Rattle.succinct.specs.Sets.{types_bound}
use Rattle.patterns.specs.Patterned.{Patterned}
use Rattle.patterns.specs.States.{types_at, left_at}
use Rattle.patterns.specs.declared.state.State.{State}
use Rattle.least_weights.specs.LeastWeight.{IsLeastWeight, AreLeastWeights, place_at}
use Rattle.partial_terms.specs.Fronts.{same}
use Rattle.reconstruction.specs.NumberedPlaces.{IsKept, describes, number, first_weight, least_at}
use Rattle.partial_terms.proofs.Popping.{same-true}

pub same-refl : (a : List ℕ) → same a a ≡ true
same-refl [] = refl
same-refl (x ∷ a) = and_from (x == x) (same a a) (eq-eqb x x refl) (same-refl a)

-- a state that passes, and the weight beside it
pub record IsFirst (p : State → Bool) (ss : List State) (ws : List (Option ℕ)) : Type 0 where
  pub place : ℕ
  pub state : State
  pub is : slice_get ss place ≡ Some state
  pub passes : p state ≡ true
  pub weight : slice_get ws place ≡ Some (first_weight p ss ws)

first-later : (p : State → Bool) (s : State) (ss : List State) (w : Option ℕ) (ws : List (Option ℕ)) → p s ≡ false → IsFirst p ss ws → IsFirst p (s ∷ ss) (w ∷ ws)
first-later p s ss w ws fails f = record { place = suc f.place; state = f.state; is = f.is; passes = f.passes; weight = f.weight ∙ ap (λ b. Some (cond b w (first_weight p ss ws))) (sym fails) }

first-here : (p : State → Bool) (s : State) (ss : List State) (w : Option ℕ) (ws : List (Option ℕ)) → p s ≡ true → IsFirst p (s ∷ ss) (w ∷ ws)
first-here p s ss w ws h = record { place = 0; state = s; is = refl; passes = h; weight = ap (λ b. Some (cond b w (first_weight p ss ws))) (sym h) }

first-or : (p : State → Bool) (s : State) (ss : List State) (w : Option ℕ) (ws : List (Option ℕ)) (b : Bool) → p s ≡ b → (p s ≡ false → IsFirst p ss ws) → IsFirst p (s ∷ ss) (w ∷ ws)
first-or p s ss w ws true e later = first-here p s ss w ws e
first-or p s ss w ws false e later = first-later p s ss w ws e (later e)

pub some_of : {X : Type 0} (x y : X) → Some x ≡ Some y → x ≡ y
some_of x y h = cc

pub none_of : {X : Type 0} (x : X) → None ≡ Some x → ⊥
none_of {X} x h = false≢true (ap is_there h)
  where
    is_there : Option X → Bool
    is_there None = false
    is_there (Some y) = true

-- where some state passes there is a first one
pub first-there : (p : State → Bool) (ss : List State) (ws : List (Option ℕ)) (i : ℕ) (s : State) → length ws ≡ length ss → slice_get ss i ≡ Some s → p s ≡ true → IsFirst p ss ws
first-there p [] ws i s long is h = absurd (none_of s is)
first-there p (x ∷ ss) [] i s long is h = absurd (omega (arith, long))
first-there p (x ∷ ss) (w ∷ ws) zero s long is h = first-here p x ss w ws (ap p (some_of x s is) ∙ h)
first-there p (x ∷ ss) (w ∷ ws) (suc i) s long is h = first-or p x ss w ws (p x) refl (λ e. first-there p ss ws i s (omega (arith, long)) is h)

-- a weight that is found stands beside a state that passes
pub first-some : (p : State → Bool) (ss : List State) (ws : List (Option ℕ)) (w : ℕ) → first_weight p ss ws ≡ Some w → IsFirst p ss ws
first-some p [] ws w h = absurd (none_of w h)
first-some p (x ∷ ss) [] w h = absurd (none_of w h)
first-some p (x ∷ ss) (v ∷ ws) w h = first-or p x ss v ws (p x) refl (λ e. first-some p ss ws w (ap (λ b. cond b v (first_weight p ss ws)) (sym e) ∙ h))

-- what it means that a state describes a place
pub record Described (g : Parts) (d : Patterned) (p : Place) (s : State) : Type 0 where
  pub types : types_bound p.ctx ≡ types_at d.space s.set
  pub depth : length p.ctx + left_at d.space s.set ≡ g.depth
  pub is : p ≡ place_at d s p.ctx

place-same : (p : Place) (l w : ℕ) → l ≡ p.left → w ≡ p.wanted → p ≡ record { ctx = p.ctx; left = l; wanted = w }
place-same p l w a b = ap (λ n. record { ctx = p.ctx; left = n; wanted = p.wanted }) (sym a) ∙ ap (λ n. record { ctx = p.ctx; left = l; wanted = n }) (sym b)

pub described : (g : Parts) (d : Patterned) (p : Place) (s : State) → describes g d p s ≡ true → Described g d p s
described g d p s h =
    let left = left_at d.space s.set in
    let a = and_parts (same (types_bound p.ctx) (types_at d.space s.set)) ((left == p.left) && ((s.goal == p.wanted) && (length p.ctx + p.left == g.depth))) h in
    let b = and_parts (left == p.left) ((s.goal == p.wanted) && (length p.ctx + p.left == g.depth)) a.1 in
    let e = and_parts (s.goal == p.wanted) (length p.ctx + p.left == g.depth) b.1 in
    let l : left ≡ p.left = eqb-true left p.left b.0 in
    let rows : length p.ctx + p.left ≡ g.depth = eqb-true (length p.ctx + p.left) g.depth e.1 in
    record {
      types = same-true (types_bound p.ctx) (types_at d.space s.set) a.0;
      depth = omega (arith, l, rows);
      is = place-same p left s.goal l (eqb-true s.goal p.wanted e.0);
    }

pub describes-is : (g : Parts) (d : Patterned) (s : State) (ctx : List (List ℕ)) → types_bound ctx ≡ types_at d.space s.set → length ctx + left_at d.space s.set ≡ g.depth → describes g d (place_at d s ctx) s ≡ true
describes-is g d s ctx types depth =
    let left = left_at d.space s.set in
    and_from (same (types_bound ctx) (types_at d.space s.set)) ((left == left) && ((s.goal == s.goal) && (length ctx + left == g.depth)))
    (ap (λ x. same x (types_at d.space s.set)) types ∙ same-refl (types_at d.space s.set))
    (and_from (left == left) ((s.goal == s.goal) && (length ctx + left == g.depth)) (eq-eqb left left refl)
    (and_from (s.goal == s.goal) (length ctx + left == g.depth) (eq-eqb s.goal s.goal refl) (eq-eqb (length ctx + left) g.depth depth)))

-- the weight beside a state that describes a place is the least weight there
module _ (g : Parts) (d : Patterned) (weights : List (Option ℕ)) (right : AreLeastWeights g d weights) where
  pub first-least : (p : Place) → IsFirst (describes g d p) d.states weights → IsLeastWeight g g.limit p (first_weight (describes g d p) d.states weights)
  first-least p f =
      let w = first_weight (describes g d p) d.states weights in
      let h : Described g d p f.state = described g d p f.state f.passes in
      let at : get_or weights f.place None ≡ w = get_or_from_slice_get weights f.place w None f.weight in
      let there : IsLeastWeight g g.limit (place_at d f.state p.ctx) (get_or weights f.place None) = right.each f.place f.state f.is p.ctx h.types h.depth in
      subst (λ q. IsLeastWeight g g.limit q w) (sym h.is) (subst (λ o. IsLeastWeight g g.limit (place_at d f.state p.ctx) o) at there)

  pub kept-first : (p : Place) → IsKept g d p → IsFirst (describes g d p) d.states weights
  kept-first p k =
      let s = k.at.state in
      let passes : describes g d p s ≡ true = ap (λ q. describes g d q s) k.is ∙ describes-is g d s p.ctx k.at.types k.at.depth in
      first-there (describes g d p) d.states weights k.number s right.as_many k.at.is passes

  -- no term at a kept place weighs less than its number
  pub least-low : (p : Place) → IsKept g d p → (e : Expr) → fits_place g p e ≡ true → weigh g p e ≤ g.limit → least_at g d weights p ≤ weigh g p e
  least-low p k e fit l = go (first_weight (describes g d p) d.states weights) (first-least p (kept-first p k))
    where
      go : (o : Option ℕ) → IsLeastWeight g g.limit p o → number g.limit o ≤ weigh g p e
      go None h = (let past : g.limit < weigh g p e = h e fit in absurd (omega (arith, past, l)))
      go (Some w) h = h.least e fit

  -- a number within the limit is the weight of a term
  pub least-met : (p : Place) → least_at g d weights p ≤ g.limit → (e : Expr) × (fits_place g p e ≡ true) × (weigh g p e ≡ least_at g d weights p)
  least-met p l = go (first_weight (describes g d p) d.states weights) refl l
    where
      go : (o : Option ℕ) → first_weight (describes g d p) d.states weights ≡ o → number g.limit o ≤ g.limit → (e : Expr) × (fits_place g p e ≡ true) × (weigh g p e ≡ number g.limit o)
      go None is l' = absurd (omega (arith, l'))
      go (Some w) is l' =
          let h : IsLeastWeight g g.limit p (Some w) = subst (λ o. IsLeastWeight g g.limit p o) is (first-least p (first-some (describes g d p) d.states weights w is)) in
          (h.term, h.fits, h.weighs)

  -- there is one least weight at a place
  one-least : (p : Place) (a b : Option ℕ) → IsLeastWeight g g.limit p a → IsLeastWeight g g.limit p b → a ≡ b
  one-least p None None x y = refl
  one-least p None (Some w) x y = (let past = x y.term y.fits in let is = y.weighs in let low = y.within in absurd (omega (arith, past, is, low)))
  one-least p (Some w) None x y = (let past = y x.term x.fits in let is = x.weighs in let low = x.within in absurd (omega (arith, past, is, low)))
  one-least p (Some v) (Some w) x y =
      let a = x.least y.term y.fits in
      let b = y.least x.term x.fits in
      let c = x.weighs in
      let e = y.weighs in
      let is : v ≡ w = omega (arith, a, b, c, e) in
      ap (λ n. Some n) is

  -- the number of a state is that of its places
  pub least-is : (i : ℕ) (s : State) (ctx : List (List ℕ)) → slice_get d.states i ≡ Some s → types_bound ctx ≡ types_at d.space s.set → length ctx + left_at d.space s.set ≡ g.depth → least_at g d weights (place_at d s ctx) ≡ number g.limit (get_or weights i None)
  least-is i s ctx is types depth =
      let p : Place = place_at d s ctx in
      let k : IsKept g d p = record { number = i; at = record { state = s; is = is; types = types; depth = depth }; is = refl } in
      ap (number g.limit) (one-least p (first_weight (describes g d p) d.states weights) (get_or weights i None) (first-least p (kept-first p k)) (right.each i s is ctx types depth))
