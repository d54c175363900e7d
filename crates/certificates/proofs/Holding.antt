-- Floors at the least weights hold, where all that they rest on is told.
use Rattle.std.proofs.Common.{◌≡◌, ◌⊎◌, inl, inr, ℕ, zero, suc, ◌+◌, ◌-◌, ◌≤◌, true, ◌==◌, List, [], ◌∷◌, map, get_or, slice_get, Option, Some, refl, sym, ap, subst, ◌∙◌, arith}
use Rattle.std.proofs.lemmas.Bool.{or_left, or_right, eq-eqb}
use Rattle.terms.specs.Expr.{var, head}
use Rattle.terms.specs.Faults.{IsValid}
use Rattle.terms.specs.Place.{shallow}
use Rattle.terms.specs.Typing.{most_rows, joined, is_below, is_pair, result_if, args_wanted, type_in, fits}
use Rattle.terms.specs.Weights.{variable_weight, step_in, decl_weight, weight_in, args_weight}
use Rattle.terms.specs.declared.parts.Decl.{Decl}
use Rattle.terms.specs.declared.parts.Parts.{Parts}
use Rattle.terms.proofs.Valid.{valid-pair, valid-depth}
use Rattle.succinct.specs.Compression.{Compression, IsCompression}
use Rattle.succinct.specs.Sets.{has, types_bound}
use Rattle.patterns.specs.declared.state.State.{State}
use Rattle.patterns.specs.Patterned.{Patterned, ArePatterns, AreSought}
use Rattle.patterns.specs.States.{types_at, left_at}
use Rattle.patterns.proofs.Contexts.{at_context}
use Rattle.patterns.proofs.Meaning.{types-rising, get-pair}
use Rattle.edges.specs.Edges.{decl_cost}
use Rattle.edges.proofs.Options.{some_eq}
use Rattle.least_weights.specs.LeastWeight.{AreLeastWeights}
use Rattle.least_weights.proofs.Lows.{Fitting, below-pair, step-same, step-apart}
use Rattle.least_weights.proofs.Sought.{IsAt}
use Rattle.checker.specs.Floors.{args_floor, Reaches, IsFloor, FloorsHold}
use Rattle.checker.specs.declared.floor.Floor.{Floor}
use Rattle.certificates.specs.Told.{number_of, AreTold, IsStateTold, AreAllTold}
use Rattle.certificates.specs.Floors.{state_at, floor_at}
use Rattle.certificates.proofs.Places.{state-there, HasPlace, has-place}
use Rattle.certificates.proofs.Numbers.{number-low, number-most}
use Rattle.certificates.proofs.Lookups.{all-apart, first-is}
use Rattle.certificates.proofs.Sets.{has-has, increasing}
use Rattle.certificates.proofs.Filling.{Filled, Outcome, fill}
use Rattle.certificates.proofs.Seeking.{head-needs, head-wanted}

-- a variable, and a declaration over arguments
var-fits : (g : Parts) (ctx : List (List ℕ)) (left b n a : ℕ) → slice_get (joined ctx) n ≡ Some a → is_below g a b ≡ true → Fitting g ctx left b (var n)
unfolding type_in shallow
var-fits g ctx left b n a at below = record { type = a; typed = at; below = below; flat = refl }

var-weighs : (g : Parts) (ctx : List (List ℕ)) (b n a : ℕ) → slice_get (joined ctx) n ≡ Some a → weight_in g ctx (var n) + step_in g (type_in g ctx (var n)) b ≡ variable_weight g + step_in g (Some a) b
unfolding type_in weight_in
var-weighs g ctx b n a at = ap (λ o. variable_weight g + step_in g o b) at

head-typed : (g : Parts) (fs : List Floor) (ctx : List (List ℕ)) (left n : ℕ) (decl : Decl) → slice_get g.decls n ≡ Some decl → (f : Filled g fs ctx left decl.args) → type_in g ctx (head n f.args) ≡ Some decl.result
unfolding type_in
head-typed g fs ctx left n decl at f = ap (λ o. result_if o (fits g ctx f.args (args_wanted o))) at ∙ ap (λ x. result_if (Some decl) x) f.fit

head-fits : (g : Parts) (fs : List Floor) (ctx : List (List ℕ)) (left b n : ℕ) (decl : Decl) → slice_get g.decls n ≡ Some decl → (f : Filled g fs ctx left decl.args) → is_below g decl.result b ≡ true → Fitting g ctx left b (head n f.args)
unfolding shallow
head-fits g fs ctx left b n decl at f below = record { type = decl.result; typed = head-typed g fs ctx left n decl at f; below = below; flat = f.flat }

head-weighs : (g : Parts) (fs : List Floor) (ctx : List (List ℕ)) (left b n : ℕ) (decl : Decl) → slice_get g.decls n ≡ Some decl → (f : Filled g fs ctx left decl.args) → weight_in g ctx (head n f.args) + step_in g (type_in g ctx (head n f.args)) b ≡ decl.weight + args_weight g ctx f.args decl.args + step_in g (Some decl.result) b
unfolding weight_in
head-weighs g fs ctx left b n decl at f =
    ap (λ o. decl_weight o + args_weight g ctx f.args (args_wanted o) + step_in g (type_in g ctx (head n f.args)) b) at
    ∙ ap (λ o. decl.weight + args_weight g ctx f.args decl.args + step_in g o b) (head-typed g fs ctx left n decl at f)

module _ (g : Parts) (c : Compression) (d : Patterned) (valid : IsValid g) (comp : IsCompression g c) (made : ArePatterns c g.goal g.depth d) (sought : AreSought c d) (weights : List (Option ℕ)) (least : AreLeastWeights g d weights) (told : List ℕ) (all : AreAllTold g c d weights told) where
  few_rows : g.depth ≤ most_rows
  few_rows = (let deep = valid-depth g valid in omega (arith, deep))

  abbrev fs : List Floor
  fs = map (floor_at g d weights) told

  -- what is told at a declaration, after the coercion
  told-head : (i : ℕ) (s : State) → slice_get d.states i ≡ Some s → IsStateTold g c d weights told i → (n : ℕ) (decl : Decl) → slice_get g.decls n ≡ Some decl → is_below g decl.result s.goal ≡ true
      → AreTold g d weights told i (get_or c.wanted n []) ((number_of g weights i - step_in g (Some decl.result) s.goal) - decl_cost g decl)
  told-head i s is state n decl at below = go (below-pair g decl.result s.goal below)
    where
      go : (decl.result ≡ s.goal) ⊎ (is_pair g.pairs decl.result s.goal ≡ true) → AreTold g d weights told i (get_or c.wanted n []) ((number_of g weights i - step_in g (Some decl.result) s.goal) - decl_cost g decl)
      go (inl same) =
          let none : number_of g weights i ≡ number_of g weights i - 0 = omega arith in
          let R : ℕ → Type 0 = λ r. AreTold g d weights told i (get_or c.wanted n []) ((number_of g weights i - r) - decl_cost g decl) in
          let here : R 0 = subst (λ m. AreTold g d weights told i (get_or c.wanted n []) (m - decl_cost g decl)) none (state.goal s is n decl at same) in
          subst R (sym (step-same g decl.result s.goal same)) here
      go (inr pair) =
          let j = get-pair g.pairs decl.result s.goal pair in
          let R : ℕ → Type 0 = λ r. AreTold g d weights told i (get_or c.wanted n []) ((number_of g weights i - r) - decl_cost g decl) in
          subst R (sym (step-apart g decl.result s.goal (valid-pair g valid decl.result s.goal pair).2)) (state.lowers s is j.0 (decl.result, s.goal) j.1 refl n decl at refl)

  -- the sum of a head
  by-outcome : (i : ℕ) (ctx : List (List ℕ)) (left b : ℕ) → IsAt d g.depth i ctx left b → (n : ℕ) (decl : Decl) → slice_get g.decls n ≡ Some decl → is_below g decl.result b ≡ true
      → Outcome g fs ctx left decl.args ((number_of g weights i - step_in g (Some decl.result) b) - decl_cost g decl) → Reaches g (number_of g weights i) (decl.weight + step_in g (Some decl.result) b + args_floor g fs (types_bound ctx) left decl.args)
  by-outcome i ctx left b at n decl here below (inl high) = inr (omega (arith, high))
  by-outcome i ctx left b at n decl here below (inr (inl far)) = inl (omega (arith, far))
  by-outcome i ctx left b at n decl here below (inr (inr f)) =
      let low = number-low g d weights least i ctx left b at (head n f.args) (head-fits g fs ctx left b n decl here f below) in
      let weighs = head-weighs g fs ctx left b n decl here f in
      let light = f.light in
      inl (omega (arith, low, weighs, light))

  -- the floor of a told state
  holds-at : (i : ℕ) → has i told ≡ true → IsFloor g fs (floor_at g d weights i)
  holds-at i h =
      let is = state-there d i (all.within i h) in
      let p : HasPlace d g.depth i = has-place c g.goal g.depth d made i (all.within i h) in
      let left = left_at d.space (state_at d i).set in
      let types : types_bound p.ctx ≡ types_at d.space (state_at d i).set = p.at.types ∙ ap (λ (x : State). types_at d.space x.set) (same-state p) in
      record {
        rising = increasing (types_at d.space (state_at d i).set) (types-rising g.depth c.needs d.space made.only_sets (state_at d i).set);
        within = number-most g d weights least i p.ctx left (state_at d i).goal p.at;
        variables = λ a in_set below. (
            let n = at_context p.ctx a (ap (has a) types ∙ has-has a (types_at d.space (state_at d i).set) in_set) in
            let low = number-low g d weights least i p.ctx left (state_at d i).goal p.at (var n.0) (var-fits g p.ctx left (state_at d i).goal n.0 a n.1 below) in
            let weighs = var-weighs g p.ctx (state_at d i).goal n.0 a n.1 in
            inl (omega (arith, low, weighs)));
        heads = λ n decl at below. (
            let named = head-needs g c comp d made sought n decl at in
            let wanted = head-wanted g c comp d made sought i (state_at d i) is n decl at below in
            let outcome = fill g c d made few_rows weights least told all.within i p.ctx left (state_at d i).goal p.at decl.args (get_or c.wanted n []) ((number_of g weights i - step_in g (Some decl.result) (state_at d i).goal) - decl_cost g decl) named wanted (told-head i (state_at d i) is (all.each i h) n decl at below) in
            subst (λ x. Reaches g (number_of g weights i) (decl.weight + step_in g (Some decl.result) (state_at d i).goal + args_floor g fs x left decl.args)) types (by-outcome i p.ctx left (state_at d i).goal p.at n decl at below outcome));
      }
    where
      same-state : (p : HasPlace d g.depth i) → p.at.state ≡ state_at d i
      same-state p = some_eq p.at.state (state_at d i) (sym p.at.is ∙ state-there d i (all.within i h))

  each-holds : (some : List ℕ) → ((j : ℕ) → has j some ≡ true → has j told ≡ true) → (k : ℕ) (f : Floor) → slice_get (map (floor_at g d weights) some) k ≡ Some f → IsFloor g fs f
  each-holds [] inside k f at = cc
  each-holds (i ∷ some) inside zero f at = subst (IsFloor g fs) (some_eq (floor_at g d weights i) f at) (holds-at i (inside i (or_left (i == i) (has i some) (eq-eqb i i refl))))
  each-holds (i ∷ some) inside (suc k) f at = each-holds some (λ j h. inside j (or_right (j == i) (has j some) h)) k f at

  pub floors-hold : FloorsHold g fs (number_of g weights 0)
  floors-hold = record {
    first = first-is g c d made weights refl refl told all.first;
    apart = all-apart g c d made weights told all.within all.distinct;
    each = each-holds told (λ j h. h);
  }
