-- What is met by kinds and states is derivable by declarations and pairs, and the other way round.
use Rattle.std.proofs.Common.{◌≡◌, ◌⊎◌, inl, inr, ℕ, zero, suc, ◌+◌, ◌-◌, ◌<◌, ◌≤◌, Bool, true, false, ◌&&◌, ◌==◌, cond, List, [], ◌∷◌, ◌++◌, length, map, get_or, slice_get, slice_index_or, Option, Some, None, refl, sym, ap, subst, ◌∙◌, arith}
use Rattle.std.specs.List.{list_any}
use Rattle.std.specs.Prelude.{⊤}
use Rattle.std.proofs.lemmas.Bool.{false≢true, and_parts, and_from, or_cases, or_left, or_right, eqb-true, eq-eqb, ne_eqb}
use Rattle.std.proofs.lemmas.Option.{slice_get_within, slice_get-get_or, get_or_from_slice_get}
use Rattle.terms.specs.Expr.{Expr}
use Rattle.terms.specs.Faults.{IsValid}
use Rattle.terms.specs.Place.{fits_place, shallow}
use Rattle.terms.specs.Typing.{is_below, is_pair, some_below, type_in}
use Rattle.terms.specs.declared.parts.Arg.{Arg}
use Rattle.terms.specs.declared.parts.Arg.TheVariants.{Plain, Fun}
use Rattle.terms.specs.declared.parts.Parts.{Parts}
use Rattle.terms.proofs.Valid.{below-transitive, below-itself}
use Rattle.succinct.specs.Compression.{Compression, IsCompression, IsKindOf, Source, sources, of_decl, of_pair, need_of}
use Rattle.succinct.specs.Sets.{has, IsRising, joined_with}
use Rattle.succinct.specs.declared.kind.Succinct.{Succinct}
use Rattle.succinct.specs.declared.need.Need.{Need}
use Rattle.succinct.proofs.Rising.{has-joined_with, joined_with-set_of}
use Rattle.patterns.specs.declared.state.State.{State}
use Rattle.patterns.specs.declared.wanted.Wanted.{Wanted}
use Rattle.patterns.specs.Derivable.{IsDerivable, in_set, by_pair, by_decl, AreDerivable, none, value, lambda}
use Rattle.patterns.specs.Met.{IsMet, by_set, by_kind, AreMet, met_none, met_more}
use Rattle.patterns.specs.Patterned.{Patterned, IsListOf, ArePatterns, Agrees}
use Rattle.patterns.specs.declared.bound_set.BoundSet.{BoundSet}
use Rattle.patterns.specs.States.{Space, no_set, types_at, left_at, step_at, set_sought, bound_in, AreWanted, IsWantedAs, AreSteps, AreBound}
use Rattle.patterns.proofs.Bindings.{set-rising}
use Rattle.patterns.proofs.Contexts.{get-has}
use Rattle.patterns.proofs.Tables.{unmap, remap}
use Rattle.patterns.proofs.Derives.{term-derives, derives-term, SomeTerm}

-- a need that can be sought, and what is derivable there
pub record IsSought (g : Parts) (p : Space) (s : State) (n : ℕ) : Type 0 where
  pub wanted : Wanted
  pub to : ℕ
  pub is : slice_get p.wanted n ≡ Some wanted
  pub sought : set_sought p s.set wanted ≡ Some to
  pub derivable : IsDerivable g (types_at p to) (left_at p to) wanted.goal

pub some_eq : {X : Type 0} (x y : X) → Some x ≡ Some y → x ≡ y
some_eq x y h = cc

-- where the body of a lambda is sought: its types, and one lambda fewer is left
pub record IsStep (p : Space) (set : ℕ) (need : Need) (to : ℕ) : Type 0 where
  pub types : types_at p to ≡ joined_with (types_at p set) need.params
  pub left : left_at p set ≡ suc (left_at p to)
  pub within : to < length p.bound

is_there : {X : Type 0} → Option X → Bool
is_there None = false
is_there (Some x) = true

none_some : {X : Type 0} (x : X) → None ≡ Some x → ⊥
unfolding is_there
none_some x h = false≢true (ap is_there h)

set-is : (p : Space) (set : ℕ) (s : BoundSet) → slice_get p.bound set ≡ Some s → slice_index_or p.bound set no_set ≡ s
set-is p set s h = get_or_from_slice_get p.bound set s no_set h

past-empty : (bound : List BoundSet) (set : ℕ) → slice_get bound set ≡ None → slice_index_or bound set no_set ≡ no_set
past-empty [] set h = refl
past-empty (b ∷ bound) zero h = cc
past-empty (b ∷ bound) (suc set) h = past-empty bound set h

-- a set in which a lambda is left is there
left-there : (p : Space) (set m : ℕ) → left_at p set ≡ suc m → (s : BoundSet) × (slice_get p.bound set ≡ Some s)
left-there p set m h = go (slice_get p.bound set) refl
  where
    go : (o : Option BoundSet) → slice_get p.bound set ≡ o → (s : BoundSet) × (slice_get p.bound set ≡ Some s)
    go None e = (let z : 0 ≡ suc m = sym (ap (λ (x : BoundSet). x.left) (past-empty p.bound set e)) ∙ h in absurd (omega (arith, z)))
    go (Some s) e = (s, e)

-- the step from a set in which a lambda is left
pub step-there : (p : Space) (needs : List Need) → AreSteps needs p.bound p.steps (length p.bound) → (set n m : ℕ) (need : Need) → left_at p set ≡ suc m → slice_get needs n ≡ Some need → need.lambda ≡ true → (to : ℕ) × (step_at p.steps set n ≡ Some to) × IsStep p set need to
step-there p needs steps set n m need left at is_lambda =
    let s = left-there p set m left in
    let same : slice_index_or p.bound set no_set ≡ s.0 = set-is p set s.0 s.1 in
    let some : s.0.left ≡ suc m = sym (ap (λ (x : BoundSet). x.left) same) ∙ left in
    let r = steps set n s.0 need (slice_get_within p.bound set s.0 s.1) s.1 (omega (arith, some)) at is_lambda in
    let there : slice_index_or p.bound r.0 no_set ≡ bound_in s.0 need = set-is p r.0 (bound_in s.0 need) r.2 in
    let one : left_at p r.0 ≡ s.0.left - 1 = ap (λ (x : BoundSet). x.left) there in (
      r.0,
      r.1,
      record {
        types = ap (λ (x : BoundSet). x.types) there ∙ ap (λ (x : BoundSet). joined_with x.types need.params) (sym same);
        left = omega (arith, left, some, one);
        within = slice_get_within p.bound r.0 (bound_in s.0 need) r.2;
      },
    )

-- a lambda is sought by a step, from a set in which one is left
pub lambda-step : (p : Space) (needs : List Need) → AreSteps needs p.bound p.steps (length p.bound) → (set n to : ℕ) (need : Need) (w : Wanted) → IsWantedAs n need w → slice_get needs n ≡ Some need → need.lambda ≡ true → set_sought p set w ≡ Some to → IsStep p set need to
lambda-step p needs steps set n to need w as_wanted at is_lambda h = by_left (left_at p set) refl
  where
    sought : cond (left_at p set == 0) None (step_at p.steps set w.number) ≡ Some to
    sought = ap (λ b. cond b (cond (left_at p set == 0) None (step_at p.steps set w.number)) (Some set)) (sym (as_wanted.lambda ∙ is_lambda)) ∙ h

    by_left : (l : ℕ) → left_at p set ≡ l → IsStep p set need to
    by_left zero e =
        let none : (left_at p set == 0) ≡ true = eq-eqb (left_at p set) 0 e in
        absurd (none_some to (ap (λ b. cond b None (step_at p.steps set w.number)) (sym none) ∙ sought))
    by_left (suc m) e =
        let some : (left_at p set == 0) ≡ false = ne_eqb (left_at p set) 0 (λ z. absurd (omega (arith, e, z))) in
        let r = step-there p needs steps set n m need e at is_lambda in
        let same : Some r.0 ≡ Some to = sym r.1 ∙ ap (step_at p.steps set) (sym as_wanted.number) ∙ ap (λ b. cond b None (step_at p.steps set w.number)) (sym some) ∙ sought in
        subst (λ t. IsStep p set need t) (some_eq r.0 to same) r.2

-- and it is sought so wherever one is left
pub lambda-there : (p : Space) (needs : List Need) → AreSteps needs p.bound p.steps (length p.bound) → (set n m : ℕ) (need : Need) (w : Wanted) → IsWantedAs n need w → slice_get needs n ≡ Some need → need.lambda ≡ true → left_at p set ≡ suc m → (to : ℕ) × (set_sought p set w ≡ Some to) × IsStep p set need to
lambda-there p needs steps set n m need w as_wanted at is_lambda left =
    let r = step-there p needs steps set n m need left at is_lambda in
    let some : (left_at p set == 0) ≡ false = ne_eqb (left_at p set) 0 (λ z. absurd (omega (arith, left, z))) in
    let sought : set_sought p set w ≡ Some r.0 =
    ap (λ b. cond b (cond (left_at p set == 0) None (step_at p.steps set w.number)) (Some set)) (as_wanted.lambda ∙ is_lambda)
    ∙ ap (λ b. cond b None (step_at p.steps set w.number)) some ∙ ap (step_at p.steps set) as_wanted.number ∙ r.1 in
    (r.0, sought, r.2)

pub plain-sought : (p : Space) (set : ℕ) (w : Wanted) → w.lambda ≡ false → set_sought p set w ≡ Some set
plain-sought p set w l = ap (λ b. cond b (cond (left_at p set == 0) None (step_at p.steps set w.number)) (Some set)) l

pub plain-same : (p : Space) (set : ℕ) (w : Wanted) (to : ℕ) → w.lambda ≡ false → set_sought p set w ≡ Some to → set ≡ to
plain-same p set w to l h = some_eq set to (sym (plain-sought p set w l) ∙ h)

-- the types of each set come rising
pub types-rising : (depth : ℕ) (needs : List Need) (p : Space) → AreBound depth needs p.bound → (set : ℕ) → IsRising (types_at p set)
types-rising depth needs p are set = go (slice_get p.bound set) refl
  where
    go : (o : Option BoundSet) → slice_get p.bound set ≡ o → IsRising (types_at p set)
    go None e = (let R : BoundSet → Type 0 = λ x. IsRising x.types in subst R (sym (past-empty p.bound set e)) tt)
    go (Some s) e = (let R : BoundSet → Type 0 = λ x. IsRising x.types in subst R (sym (set-is p set s e)) (set-rising depth needs p.bound are set s e))

append-get : {X : Type 0} (xs ys : List X) (n : ℕ) (z : X) → slice_get (xs ++ ys) n ≡ Some z → (slice_get xs n ≡ Some z) ⊎ ((j : ℕ) × (slice_get ys j ≡ Some z))
append-get [] ys n z h = inr (n, h)
append-get (x ∷ xs) ys zero z h = inl h
append-get (x ∷ xs) ys (suc n) z h = append-get xs ys n z h

right-get : {X : Type 0} (xs ys : List X) (j : ℕ) (z : X) → slice_get ys j ≡ Some z → slice_get (xs ++ ys) (length xs + j) ≡ Some z
right-get [] ys j z h = (let e : 0 + j ≡ j = omega arith in ap (slice_get ys) e ∙ h)
right-get (x ∷ xs) ys j z h = (let e : suc (length xs) + j ≡ suc (length xs + j) = omega arith in ap (slice_get (x ∷ (xs ++ ys))) e ∙ right-get xs ys j z h)

left-get : {X : Type 0} (xs ys : List X) (j : ℕ) (z : X) → slice_get xs j ≡ Some z → slice_get (xs ++ ys) j ≡ Some z
left-get [] ys j z h = cc
left-get (x ∷ xs) ys zero z h = h
left-get (x ∷ xs) ys (suc j) z h = left-get xs ys j z h

pub pair-get : (pairs : List (ℕ × ℕ)) (j : ℕ) (q : ℕ × ℕ) → slice_get pairs j ≡ Some q → is_pair pairs q.0 q.1 ≡ true
unfolding is_pair
pair-get [] j q h = cc
pair-get (x ∷ pairs) zero q h =
    let e : x ≡ q = some_eq x q h in
    or_left ((x.0 == q.0) && (x.1 == q.1)) (list_any (λ y. (y.0 == q.0) && (y.1 == q.1)) pairs) (and_from (x.0 == q.0) (x.1 == q.1) (eq-eqb x.0 q.0 (ap (λ y. y.0) e)) (eq-eqb x.1 q.1 (ap (λ y. y.1) e)))
pair-get (x ∷ pairs) (suc j) q h = or_right ((x.0 == q.0) && (x.1 == q.1)) (list_any (λ y. (y.0 == q.0) && (y.1 == q.1)) pairs) (pair-get pairs j q h)

pub get-pair : (pairs : List (ℕ × ℕ)) (a b : ℕ) → is_pair pairs a b ≡ true → (j : ℕ) × (slice_get pairs j ≡ Some (a, b))
unfolding is_pair
get-pair [] a b h = absurd (false≢true h)
get-pair (x ∷ pairs) a b h = elim (or_cases ((x.0 == a) && (x.1 == b)) (list_any (λ y. (y.0 == a) && (y.1 == b)) pairs) h) [
  | inl here ↦ (
      let both = and_parts (x.0 == a) (x.1 == b) here in
      let e : x ≡ (a, b) = ap (λ y. (y, x.1)) (eqb-true x.0 a both.0) ∙ ap (λ y. (a, y)) (eqb-true x.1 b both.1) in
      (0, ap (λ y. Some y) e))
  | inr there ↦ (let r = get-pair pairs a b there in (suc r.0, r.1))
]

pair-below : (g : Parts) (a b : ℕ) → is_pair g.pairs a b ≡ true → is_below g a b ≡ true
unfolding is_below
pair-below g a b h = or_right (a == b) (is_pair g.pairs a b) h

below-pair : (g : Parts) (a b : ℕ) → is_below g a b ≡ true → (a ≡ b) ⊎ (is_pair g.pairs a b ≡ true)
unfolding is_below
below-pair g a b h = elim (or_cases (a == b) (is_pair g.pairs a b) h) [
  | inl same ↦ inl (eqb-true a b same)
  | inr pair ↦ inr pair
]

first-want : (g : Parts) (set : List ℕ) (left b : ℕ) (more : List Arg) → AreDerivable g set left (Plain b ∷ more) → IsDerivable g set left b
first-want g set left b more (value set' left' b' more' d rest) = d

module _ (g : Parts) (c : Compression) (p : Space) (comp : IsCompression g c) (table : AreWanted c.needs p.wanted) (steps : AreSteps c.needs p.bound p.steps (length p.bound)) (rising : (set : ℕ) → IsRising (types_at p set)) where
  -- the wants of a source are derivable where its needs are sought
  args-from : (s : State) (numbers : List ℕ) (args : List Arg) → map (λ i. slice_get c.needs i) numbers ≡ map (λ a. Some (need_of a)) args → ((n : ℕ) → has n numbers ≡ true → IsSought g p s n) → AreDerivable g (types_at p s.set) (left_at p s.set) args
  args-from s [] [] named each = none (types_at p s.set) (left_at p s.set)
  args-from s [] (a ∷ args) named each = cc
  args-from s (n ∷ ns) [] named each = cc
  args-from s (n ∷ ns) (Plain b ∷ args) named each =
      let first : slice_get c.needs n ≡ Some (need_of (Plain b)) = cc in
      let later : map (λ i. slice_get c.needs i) ns ≡ map (λ a. Some (need_of a)) args = cc in
      let q : IsSought g p s n = each n (or_left (n == n) (has n ns) (eq-eqb n n refl)) in
      let w = table n (need_of (Plain b)) first in
      let same : w.0 ≡ q.wanted = some_eq w.0 q.wanted (sym w.1 ∙ q.is) in
      let as_wanted : IsWantedAs n (need_of (Plain b)) q.wanted = subst (λ x. IsWantedAs n (need_of (Plain b)) x) same w.2 in
      let to : q.to ≡ s.set = sym (plain-same p s.set q.wanted q.to as_wanted.lambda q.sought) in
      let d : IsDerivable g (types_at p s.set) (left_at p s.set) q.wanted.goal = subst (λ t. IsDerivable g (types_at p t) (left_at p t) q.wanted.goal) to q.derivable in
      value (types_at p s.set) (left_at p s.set) b args (subst (λ t. IsDerivable g (types_at p s.set) (left_at p s.set) t) as_wanted.goal d) (args-from s ns args later (λ m h. each m (or_right (m == n) (has m ns) h)))
  args-from s (n ∷ ns) (Fun ps r ∷ args) named each =
      let first : slice_get c.needs n ≡ Some (need_of (Fun ps r)) = cc in
      let later : map (λ i. slice_get c.needs i) ns ≡ map (λ a. Some (need_of a)) args = cc in
      let q : IsSought g p s n = each n (or_left (n == n) (has n ns) (eq-eqb n n refl)) in
      let w = table n (need_of (Fun ps r)) first in
      let same : w.0 ≡ q.wanted = some_eq w.0 q.wanted (sym w.1 ∙ q.is) in
      let as_wanted : IsWantedAs n (need_of (Fun ps r)) q.wanted = subst (λ x. IsWantedAs n (need_of (Fun ps r)) x) same w.2 in
      let st : IsStep p s.set (need_of (Fun ps r)) q.to = lambda-step p c.needs steps s.set n q.to (need_of (Fun ps r)) q.wanted as_wanted first refl q.sought in
      let types = types_at p s.set in
      let bound : types_at p q.to ≡ joined_with types ps = st.types ∙ joined_with-set_of types ps (rising s.set) in
      let d0 : IsDerivable g (joined_with types ps) (left_at p q.to) q.wanted.goal = subst (λ t. IsDerivable g t (left_at p q.to) q.wanted.goal) bound q.derivable in
      let d1 : IsDerivable g (joined_with types ps) (left_at p q.to) r = subst (λ t. IsDerivable g (joined_with types ps) (left_at p q.to) t) as_wanted.goal d0 in
      let rest : AreDerivable g types (left_at p s.set) args = args-from s ns args later (λ m h. each m (or_right (m == n) (has m ns) h)) in
      let rest1 : AreDerivable g types (suc (left_at p q.to)) args = subst (λ t. AreDerivable g types t args) st.left rest in
      let all : AreDerivable g types (suc (left_at p q.to)) (Fun ps r ∷ args) = lambda types (left_at p q.to) ps r args d1 rest1 in
      subst (λ t. AreDerivable g types t (Fun ps r ∷ args)) (sym st.left) all

  -- the wants of a source of a kind whose needs are sought
  source-from : (s : State) (source : Source) (kind : Succinct) → IsKindOf c.needs source kind → ((n : ℕ) → has n kind.needs ≡ true → IsSought g p s n) → AreDerivable g (types_at p s.set) (left_at p s.set) source.args
  source-from s source kind k each = args-from s k.numbers source.args k.named (λ n h. each n (ap (has n) k.wants ∙ has-joined_with n [] k.numbers ∙ h))

  -- what a source gives whose wants are derivable
  gives-from : (set : List ℕ) (left n : ℕ) (source : Source) → slice_get (sources g) n ≡ Some source → AreDerivable g set left source.args → IsDerivable g set left source.result
  gives-from set left n source at all = elim (append-get (map of_decl g.decls) (map of_pair g.pairs) n source at) [
    | inl decl ↦ (
        let u = unmap of_decl g.decls n source decl in
        let wants : AreDerivable g set left u.0.args = subst (λ (x : Source). AreDerivable g set left x.args) (sym u.2) all in
        subst (λ (x : Source). IsDerivable g set left x.result) u.2 (by_decl set left n u.0 u.1 wants))
    | inr pair ↦ (
        let u = unmap of_pair g.pairs pair.0 source pair.1 in
        let wants : AreDerivable g set left (Plain u.0.0 ∷ []) = subst (λ (x : Source). AreDerivable g set left x.args) (sym u.2) all in
        let below : is_below g u.0.0 u.0.1 ≡ true = pair-below g u.0.0 u.0.1 (pair-get g.pairs pair.0 u.0 u.1) in
        subst (λ (x : Source). IsDerivable g set left x.result) u.2 (by_pair set left u.0.0 u.0.1 below (first-want g set left u.0.0 [] wants)))
  ]

  -- a source of a kind
  pub source-of : (k : ℕ) (kind : Succinct) → slice_get c.kinds k ≡ Some kind → (n : ℕ) × (source : Source) × (slice_get (sources g) n ≡ Some source) × IsKindOf c.needs source kind
  source-of k kind found =
      let low = slice_get_within c.kinds k kind found in
      let at = get-has c.kind_numbers k (comp.of_sources.no_other_kind k low) in
      let within = slice_get_within c.kind_numbers at.0 k at.1 in
      there at.0 at.1 (slice_get (sources g) at.0) refl within
    where
      past_end : {X : Type 0} (xs : List X) (j : ℕ) → slice_get xs j ≡ None → length xs ≤ j
      past_end [] j e = omega arith
      past_end (x ∷ xs) zero e = cc
      past_end (x ∷ xs) (suc j) e = (let m = past_end xs j e in omega (arith, m))

      there : (n : ℕ) → slice_get c.kind_numbers n ≡ Some k → (o : Option Source) → slice_get (sources g) n ≡ o → n < length c.kind_numbers → (m : ℕ) × (source : Source) × (slice_get (sources g) m ≡ Some source) × IsKindOf c.needs source kind
      there n at None e low = (let past = past_end (sources g) n e in let long = comp.of_sources.numbered in absurd (omega (arith, low, past, long)))
      there n at (Some source) e low =
          let r = comp.of_sources.kind_of_each n k source e at in
          let same : r.0 ≡ kind = some_eq r.0 kind (sym r.1 ∙ found) in
          (n, source, e, subst (λ x. IsKindOf c.needs source x) same r.2)

  -- the argument that a number stands for
  arg-at : (numbers : List ℕ) (args : List Arg) → map (λ i. slice_get c.needs i) numbers ≡ map (λ a. Some (need_of a)) args → (n : ℕ) → has n numbers ≡ true → (a : Arg) × (slice_get c.needs n ≡ Some (need_of a))
  arg-at [] args named n h = absurd (false≢true h)
  arg-at (m ∷ ms) [] named n h = cc
  arg-at (m ∷ ms) (a ∷ args) named n h =
      let first : slice_get c.needs m ≡ Some (need_of a) = cc in
      let later : map (λ i. slice_get c.needs i) ms ≡ map (λ x. Some (need_of x)) args = cc in
      elim (or_cases (n == m) (has n ms) h) [
        | inl here ↦ (a, ap (slice_get c.needs) (eqb-true n m here) ∙ first)
        | inr there ↦ arg-at ms args later n there
      ]

  -- each need is that of an argument
  pub need-is : (n : ℕ) (need : Need) → slice_get c.needs n ≡ Some need → (a : Arg) × (need ≡ need_of a)
  need-is n need at =
      let k = comp.of_sources.no_other_need n (slice_get_within c.needs n need at) in
      let f = source-of k.0 k.1 k.2 in
      let in_numbers : has n f.3.numbers ≡ true = sym (ap (has n) f.3.wants ∙ has-joined_with n [] f.3.numbers) ∙ k.3 in
      let a = arg-at f.3.numbers f.1.args f.3.named n in_numbers in
      (a.0, some_eq need (need_of a.0) (sym at ∙ a.1))

  mutual
    -- what is met is derivable
    pub met-derives : (s : State) → IsMet p c.kinds s → IsDerivable g (types_at p s.set) (left_at p s.set) s.goal
    met-derives s (by_set s' h) = in_set (types_at p s.set) (left_at p s.set) s.goal h
    met-derives s (by_kind s' k kind found gives all) =
        let f = source-of k kind found in
        let wants : AreDerivable g (types_at p s.set) (left_at p s.set) f.1.args = source-from s f.1 kind f.3 (needs-sought s kind.needs all) in
        subst (λ t. IsDerivable g (types_at p s.set) (left_at p s.set) t) (sym f.3.gives ∙ gives) (gives-from (types_at p s.set) (left_at p s.set) f.0 f.1 f.2 wants)

    pub needs-sought : (s : State) (ns : List ℕ) → AreMet p c.kinds s ns → (n : ℕ) → has n ns ≡ true → IsSought g p s n
    needs-sought s ns (met_none s') n h = absurd (false≢true h)
    needs-sought s ns (met_more s' m ms w to is sought met rest) n h = elim (or_cases (n == m) (has n ms) h) [
      | inl here ↦ (
          let same : n ≡ m = eqb-true n m here in
          record { wanted = w; to = to; is = ap (slice_get p.wanted) same ∙ is; sought = sought; derivable = met-derives (record { set = to; goal = w.goal }) met })
      | inr there ↦ needs-sought s ms rest n there
    ]

  -- an argument whose want is met at a set
  abbrev ArgMet : ℕ → Arg → Type 0
  ArgMet set (Plain b) = IsMet p c.kinds (record { set = set; goal = b })
  ArgMet set (Fun ps r) = (left : ℕ) × (left_at p set ≡ suc left) × ((to : ℕ) → types_at p to ≡ joined_with (types_at p set) ps → left_at p to ≡ left → IsMet p c.kinds (record { set = to; goal = r }))

  abbrev ArgsMet : ℕ → List Arg → Type 0
  ArgsMet set [] = ⊤
  ArgsMet set (a ∷ args) = ArgMet set a × ArgsMet set args

  -- a need of such an argument is met
  one-met : (set n : ℕ) (a : Arg) → slice_get c.needs n ≡ Some (need_of a) → ArgMet set a → (w : Wanted) × (to : ℕ) × (slice_get p.wanted n ≡ Some w) × (set_sought p set w ≡ Some to) × IsMet p c.kinds (record { set = to; goal = w.goal })
  one-met set n (Plain b) at met =
      let w = table n (need_of (Plain b)) at in
      let sought : set_sought p set w.0 ≡ Some set = plain-sought p set w.0 w.2.lambda in
      (w.0, set, w.1, sought, subst (λ t. IsMet p c.kinds (record { set = set; goal = t })) (sym w.2.goal) met)
  one-met set n (Fun ps r) at met =
      let w = table n (need_of (Fun ps r)) at in
      let t = lambda-there p c.needs steps set n met.0 (need_of (Fun ps r)) w.0 w.2 at refl met.1 in
      let left = t.2.left in
      let had = met.1 in
      (w.0, t.0, w.1, t.1, subst (λ x. IsMet p c.kinds (record { set = t.0; goal = x })) (sym w.2.goal) (met.2 t.0 (t.2.types ∙ joined_with-set_of (types_at p set) ps (rising set)) (omega (arith, left, had))))

  arg-of : (set : ℕ) (numbers : List ℕ) (args : List Arg) → map (λ i. slice_get c.needs i) numbers ≡ map (λ a. Some (need_of a)) args → ArgsMet set args → (n : ℕ) → has n numbers ≡ true → (a : Arg) × (slice_get c.needs n ≡ Some (need_of a)) × ArgMet set a
  arg-of set [] args named met n h = absurd (false≢true h)
  arg-of set (m ∷ ms) [] named met n h = cc
  arg-of set (m ∷ ms) (a ∷ args) named met n h =
      let first : slice_get c.needs m ≡ Some (need_of a) = cc in
      let later : map (λ i. slice_get c.needs i) ms ≡ map (λ x. Some (need_of x)) args = cc in
      elim (or_cases (n == m) (has n ms) h) [
        | inl here ↦ (a, ap (slice_get c.needs) (eqb-true n m here) ∙ first, met.0)
        | inr there ↦ arg-of set ms args later met.1 n there
      ]

  needs-met : (set goal : ℕ) (source : Source) (kind : Succinct) → IsKindOf c.needs source kind → ArgsMet set source.args → (ns : List ℕ) → ((n : ℕ) → has n ns ≡ true → has n kind.needs ≡ true) → AreMet p c.kinds (record { set = set; goal = goal }) ns
  needs-met set goal source kind k met [] each = met_none (record { set = set; goal = goal })
  needs-met set goal source kind k met (n ∷ ns) each =
      let in_needs : has n kind.needs ≡ true = each n (or_left (n == n) (has n ns) (eq-eqb n n refl)) in
      let in_numbers : has n k.numbers ≡ true = sym (ap (has n) k.wants ∙ has-joined_with n [] k.numbers) ∙ in_needs in
      let a = arg-of set k.numbers source.args k.named met n in_numbers in
      let one = one-met set n a.0 a.1 a.2 in
      met_more (record { set = set; goal = goal }) n ns one.0 one.1 one.2 one.3 one.4 (needs-met set goal source kind k met ns (λ m h. each m (or_right (m == n) (has m ns) h)))

  -- what a source gives whose wants are met
  source-met : (set n : ℕ) (source : Source) → slice_get (sources g) n ≡ Some source → ArgsMet set source.args → IsMet p c.kinds (record { set = set; goal = source.result })
  source-met set n source at met =
      let within = slice_get_within (sources g) n source at in
      let low : n < length c.kind_numbers = (let long = comp.of_sources.numbered in omega (arith, within, long)) in
      let number : slice_get c.kind_numbers n ≡ Some (get_or c.kind_numbers n 0) = slice_get-get_or c.kind_numbers n 0 low in
      let r = comp.of_sources.kind_of_each n (get_or c.kind_numbers n 0) source at number in
      by_kind (record { set = set; goal = source.result }) (get_or c.kind_numbers n 0) r.0 r.1 r.2.gives (needs-met set source.result source r.0 r.2 met r.0.needs (λ m h. h))

  mutual
    -- what is derivable is met
    pub derives-met : (types : List ℕ) (left b : ℕ) → IsDerivable g types left b → (set : ℕ) → types_at p set ≡ types → left_at p set ≡ left → IsMet p c.kinds (record { set = set; goal = b })
    derives-met types left b (in_set types' left' b' h) set t l = by_set (record { set = set; goal = b }) (ap (has b) t ∙ h)
    derives-met types left b (by_pair types' left' a b' below d) set t l =
        let inner : IsMet p c.kinds (record { set = set; goal = a }) = derives-met types left a d set t l in
        elim (below-pair g a b below) [
          | inl same ↦ subst (λ x. IsMet p c.kinds (record { set = set; goal = x })) same inner
          | inr pair ↦ (
              let j = get-pair g.pairs a b pair in
              let at : slice_get (sources g) (length (map of_decl g.decls) + j.0) ≡ Some (of_pair (a, b)) = right-get (map of_decl g.decls) (map of_pair g.pairs) j.0 (of_pair (a, b)) (remap of_pair g.pairs j.0 (a, b) j.1) in
              source-met set (length (map of_decl g.decls) + j.0) (of_pair (a, b)) at (inner, tt))
        ]
    derives-met types left b (by_decl types' left' n d found all) set t l =
        let at : slice_get (sources g) n ≡ Some (of_decl d) = left-get (map of_decl g.decls) (map of_pair g.pairs) n (of_decl d) (remap of_decl g.decls n d found) in
        source-met set n (of_decl d) at (args-met types left d.args all set t l)

    pub args-met : (types : List ℕ) (left : ℕ) (args : List Arg) → AreDerivable g types left args → (set : ℕ) → types_at p set ≡ types → left_at p set ≡ left → ArgsMet set args
    args-met types left args (none types' left') set t l = tt
    args-met types left args (value types' left' b more d rest) set t l = (derives-met types left b d set t l, args-met types left more rest set t l)
    args-met types left args (lambda types' left' ps r more d rest) set t l =
        ((left', l, λ to types_to left_to. derives-met (joined_with types ps) left' r d to (types_to ∙ ap (λ x. joined_with x ps) t) left_to), args-met types left more rest set t l)

some-fits : (g : Parts) (ctx : List (List ℕ)) (left b : ℕ) (t : SomeTerm g ctx left b) → fits_place g (record { ctx = ctx; left = left; wanted = b }) t.term ≡ true
unfolding fits_place
some-fits g ctx left b t = and_from (some_below g (type_in g ctx t.term) b) (shallow left t.term) (ap (λ o. some_below g o b) t.typed ∙ t.below) t.flat

-- the patterns agree with the environment
pub agrees : (g : Parts) (c : Compression) (goal depth : ℕ) (d : Patterned) → IsValid g → IsCompression g c → ArePatterns c goal depth d → Agrees g c d
agrees g c goal depth d valid comp made i s list at is = record {
  rising = types-rising depth c.needs d.space made.only_sets s.set;
  listed = λ k n source from number gives all. (
      let r = comp.of_sources.kind_of_each n k source from number in
      lo.all k r.0 r.1 (r.2.gives ∙ gives) (needs-met g c d.space comp made.wanted made.steps rising s.set s.goal source r.0 r.2 (args-met g c d.space comp made.wanted made.steps rising (types_at d.space s.set) (left_at d.space s.set) source.args all s.set refl refl) r.0.needs (λ m h. h)));
  only_those = λ k h. (let r = lo.only k h in (r.0, r.1, r.2, λ source kind. source-from g c d.space comp made.wanted made.steps rising s source r.0 kind (needs-sought g c d.space comp made.wanted made.steps rising s r.0.needs r.3)));
  listed_is_derivable = λ seen. elim seen [
    | inl bound ↦ in_set (types_at d.space s.set) (left_at d.space s.set) s.goal bound
    | inr some ↦ (let r = lo.only some.0 some.1 in met-derives g c d.space comp made.wanted made.steps rising s (by_kind s some.0 r.0 r.1 r.2 r.3))
  ];
  derivable_is_listed = λ h. seen-of s (derives-met g c d.space comp made.wanted made.steps rising (types_at d.space s.set) (left_at d.space s.set) s.goal h s.set refl refl) lo;
  derivable_has_a_term = λ ctx types room h. fits-of ctx (derives-term g (below-transitive g valid) (below-itself g) (types_at d.space s.set) (left_at d.space s.set) s.goal h ctx types room);
  a_term_is_derivable = λ ctx types e fit. subst (λ t. IsDerivable g t (left_at d.space s.set) s.goal) types (term-derives g ctx (left_at d.space s.set) s.goal e fit);
}
  where
    lo : IsListOf d.space c.kinds s list
    lo = made.found.each i s list at is

    rising : (set : ℕ) → IsRising (types_at d.space set)
    rising = types-rising depth c.needs d.space made.only_sets

    seen-of : (t : State) → IsMet d.space c.kinds t → IsListOf d.space c.kinds t list → (has t.goal (types_at d.space t.set) ≡ true) ⊎ ((k : ℕ) × (has k list ≡ true))
    seen-of t (by_set t' h) l = inl h
    seen-of t (by_kind t' k kind found gives all) l = inr (k, l.all k kind found gives all)

    fits-of : (ctx : List (List ℕ)) → SomeTerm g ctx (left_at d.space s.set) s.goal → (e : Expr) × (fits_place g (record { ctx = ctx; left = left_at d.space s.set; wanted = s.goal }) e ≡ true)
    fits-of ctx t = (t.term, some-fits g ctx (left_at d.space s.set) s.goal t)
