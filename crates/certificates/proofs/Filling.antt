-- Arguments of the least weights, where all the states that they are wanted in are told; else the floors of those that
-- are told reach what was left.
use Rattle.std.proofs.Common.{◌≡◌, ◌⊎◌, inl, inr, ℕ, zero, suc, ◌+◌, ◌-◌, ◌≤◌, ◌<◌, true, ◌&&◌, ◌==◌, List, [], ◌∷◌, ◌++◌, length, map, slice_get, Option, Some, None, refl, sym, ap, subst, ◌∙◌, arith}
use Rattle.std.specs.Prelude.{nat_lt, IfSome}
use Rattle.std.proofs.lemmas.Bool.{false≢true, and_from, lt-ltb, cases_lt, or_left, or_right, eq-eqb}
use Rattle.terms.specs.Expr.{Args, no_args, plain, lam}
use Rattle.terms.specs.Place.{shallow, args_shallow}
use Rattle.terms.specs.Reading.{binders}
use Rattle.terms.specs.Typing.{most_rows, type_in, fits, some_below}
use Rattle.terms.specs.Weights.{binders_weight, args_weight}
use Rattle.terms.specs.declared.parts.Arg.{Arg}
use Rattle.terms.specs.declared.parts.Arg.TheVariants.{Plain, Fun}
use Rattle.terms.specs.declared.parts.Parts.{Parts}
use Rattle.terms.proofs.Weighing.{binders_weight-none, binders_weight-more}
use Rattle.succinct.specs.Compression.{Compression, need_of, AreNeedsOf}
use Rattle.succinct.specs.Sets.{has, types_bound}
use Rattle.succinct.specs.declared.need.Need.{Need}
use Rattle.patterns.specs.declared.state.State.{State}
use Rattle.patterns.specs.Patterned.{Patterned, ArePatterns, state_sought}
use Rattle.patterns.specs.States.{types_at, left_at}
use Rattle.patterns.proofs.Contexts.{set_of-more}
use Rattle.edges.specs.Edges.{IsTail}
use Rattle.edges.proofs.Options.{some_eq, none_some}
use Rattle.least_weights.specs.LeastWeight.{AreLeastWeights}
use Rattle.least_weights.proofs.Reached.{Reached}
use Rattle.least_weights.proofs.Sought.{IsAt, IsUnder, plain-at, fun-at}
use Rattle.checker.specs.Floors.{with_types, floor_of, top, args_floor}
use Rattle.checker.specs.declared.floor.Floor.{Floor}
use Rattle.certificates.specs.Told.{number_of, AreTold}
use Rattle.certificates.specs.Floors.{state_at, floor_at}
use Rattle.certificates.proofs.Places.{state-there}
use Rattle.certificates.proofs.Numbers.{number-reached}
use Rattle.certificates.proofs.Lookups.{floor-found}
use Rattle.certificates.proofs.Sets.{with-joined}

-- arguments that fit, and weigh no more than their floors
pub record Filled (g : Parts) (fs : List Floor) (ctx : List (List ℕ)) (left : ℕ) (wanted : List Arg) : Type 0 where
  pub args : Args
  pub fit : fits g ctx args wanted ≡ true
  pub flat : args_shallow left args ≡ true
  pub light : args_weight g ctx args wanted ≤ args_floor g fs (types_bound ctx) left wanted

-- more than an inhabitant weighs, or as much as was left, or arguments that weigh no more
abbrev pub Outcome : Parts → List Floor → List (List ℕ) → ℕ → List Arg → ℕ → Type 0
Outcome g fs ctx left wanted rest = (top g ≤ args_floor g fs (types_bound ctx) left wanted) ⊎ ((binders_weight g (binders wanted) + rest ≤ args_floor g fs (types_bound ctx) left wanted) ⊎ Filled g fs ctx left wanted)

-- the binders alone
binders-low : (g : Parts) (fs : List Floor) (set : List ℕ) (left : ℕ) (wanted : List Arg) → (top g ≤ args_floor g fs set left wanted) ⊎ (binders_weight g (binders wanted) + 0 ≤ args_floor g fs set left wanted)
unfolding binders
binders-low g fs set left [] = inr (omega (arith, binders_weight-none g))
binders-low g fs set left (Plain b ∷ more) = elim (binders-low g fs set left more) [
  | inl high ↦ inl (omega (arith, high))
  | inr low ↦ inr (omega (arith, low))
]
binders-low g fs set zero (Fun ps r ∷ more) = inl (omega arith)
binders-low g fs set (suc left) (Fun ps r ∷ more) = elim (binders-low g fs set (suc left) more) [
  | inl high ↦ inl (omega (arith, high))
  | inr low ↦ inr (omega (arith, low, binders_weight-more g (length ps) (binders more)))
]

-- where a need is sought at state i, unless it is a lambda and none is left
abbrev pub AreWantedAt : Compression → Patterned → ℕ → ℕ → List ℕ → Type 0
AreWantedAt c d i left ns = (n : ℕ) (need : Need) → has n ns ≡ true → slice_get c.needs n ≡ Some need → (need.lambda ≡ true → 0 < left) → (j : ℕ) × (state_sought d i n ≡ Some j)

module _ (g : Parts) (c : Compression) (d : Patterned) {goal : ℕ} (made : ArePatterns c goal g.depth d) (few_rows : g.depth ≤ most_rows) (weights : List (Option ℕ)) (least : AreLeastWeights g d weights) (told : List ℕ) (within : (j : ℕ) → has j told ≡ true → j < length d.states) where
  abbrev fs : List Floor
  fs = map (floor_at g d weights) told

  -- the floor at the place of a told state
  found-at : (j : ℕ) (ctx : List (List ℕ)) (left b : ℕ) → IsAt d g.depth j ctx left b → has j told ≡ true → floor_of fs (types_bound ctx) left b ≡ number_of g weights j
  found-at j ctx left b at h =
      let low = within j h in
      let same : at.state ≡ state_at d j = some_eq at.state (state_at d j) (sym at.is ∙ state-there d j low) in
      ap (λ x. floor_of fs x left b) (at.types ∙ ap (λ (s : State). types_at d.space s.set) same)
      ∙ ap (λ x. floor_of fs (types_at d.space (state_at d j).set) x b) (at.left_is ∙ ap (λ (s : State). left_at d.space s.set) same)
      ∙ ap (λ x. floor_of fs (types_at d.space (state_at d j).set) (left_at d.space (state_at d j).set) x) (at.goal ∙ ap (λ (s : State). s.goal) same)
      ∙ floor-found g c d made weights told within j low h

  -- one argument more
  plain-filled : (j : ℕ) (ctx : List (List ℕ)) (left b rest : ℕ) (more : List Arg) → IsAt d g.depth j ctx left b → floor_of fs (types_bound ctx) left b ≡ number_of g weights j → Filled g fs ctx left more → (g.limit < number_of g weights j) ⊎ (number_of g weights j ≤ g.limit) → Outcome g fs ctx left (Plain b ∷ more) rest
  unfolding binders fits args_shallow args_weight
  plain-filled j ctx left b rest more at found filled (inl above) = inl (omega (arith, above, found))
  plain-filled j ctx left b rest more at found filled (inr inside) =
      let r : Reached g ctx left b (number_of g weights j) = number-reached g d weights least j ctx left b at inside in
      let light = r.light in
      let others = filled.light in
      inr (inr (record {
        args = plain r.term filled.args;
        fit = and_from (some_below g (type_in g ctx r.term) b) (fits g ctx filled.args more) (ap (λ o. some_below g o b) r.fit.typed ∙ r.fit.below) filled.fit;
        flat = and_from (shallow left r.term) (args_shallow left filled.args) r.fit.flat filled.flat;
        light = omega (arith, light, others, found);
      }))

  plain-more : (j : ℕ) (ctx : List (List ℕ)) (left b rest : ℕ) (more : List Arg) → IsAt d g.depth j ctx left b → has j told ≡ true → Outcome g fs ctx left more (rest - number_of g weights j) → Outcome g fs ctx left (Plain b ∷ more) rest
  unfolding binders
  plain-more j ctx left b rest more at h (inl high) = inl (omega (arith, high))
  plain-more j ctx left b rest more at h (inr (inl far)) = (let found = found-at j ctx left b at h in inr (inl (omega (arith, far, found))))
  plain-more j ctx left b rest more at h (inr (inr filled)) = plain-filled j ctx left b rest more at (found-at j ctx left b at h) filled (cases_lt g.limit (number_of g weights j))

  -- one under a lambda
  fun-filled : (j : ℕ) (ctx : List (List ℕ)) (left : ℕ) (ps : List ℕ) (r rest : ℕ) (more : List Arg) → length ctx + suc left ≡ g.depth → IsAt d g.depth j (ctx ++ ps ∷ []) left r → floor_of fs (with_types ps (types_bound ctx)) left r ≡ number_of g weights j → Filled g fs ctx (suc left) more → (g.limit < number_of g weights j) ⊎ (number_of g weights j ≤ g.limit) → Outcome g fs ctx (suc left) (Fun ps r ∷ more) rest
  unfolding binders fits args_shallow args_weight
  fun-filled j ctx left ps r rest more rows at found filled (inl above) = inl (omega (arith, above, found))
  fun-filled j ctx left ps r rest more rows at found filled (inr inside) =
      let under = ctx ++ ps ∷ [] in
      let t : Reached g under left r (number_of g weights j) = number-reached g d weights least j under left r at inside in
      let light = t.light in
      let others = filled.light in
      inr (inr (record {
        args = lam t.term filled.args;
        fit = and_from (nat_lt (length ctx) 3 && some_below g (type_in g under t.term) r) (fits g ctx filled.args more) (and_from (nat_lt (length ctx) 3) (some_below g (type_in g under t.term) r) (lt-ltb (length ctx) 3 (omega (arith, rows, few_rows))) (ap (λ o. some_below g o r) t.fit.typed ∙ t.fit.below)) filled.fit;
        flat = and_from (shallow left t.term) (args_shallow (suc left) filled.args) t.fit.flat filled.flat;
        light = omega (arith, light, others, found);
      }))

  fun-found : (j : ℕ) (ctx : List (List ℕ)) (left : ℕ) (ps : List ℕ) (r : ℕ) → IsAt d g.depth j (ctx ++ ps ∷ []) left r → has j told ≡ true → floor_of fs (with_types ps (types_bound ctx)) left r ≡ number_of g weights j
  fun-found j ctx left ps r at h = ap (λ x. floor_of fs x left r) (with-joined ps (types_bound ctx) ∙ sym (set_of-more ctx ps)) ∙ found-at j (ctx ++ ps ∷ []) left r at h

  fun-more : (j : ℕ) (ctx : List (List ℕ)) (left : ℕ) (ps : List ℕ) (r rest : ℕ) (more : List Arg) → length ctx + suc left ≡ g.depth → IsAt d g.depth j (ctx ++ ps ∷ []) left r → has j told ≡ true → Outcome g fs ctx (suc left) more (rest - number_of g weights j) → Outcome g fs ctx (suc left) (Fun ps r ∷ more) rest
  unfolding binders
  fun-more j ctx left ps r rest more rows at h (inl high) = inl (omega (arith, high))
  fun-more j ctx left ps r rest more rows at h (inr (inl far)) = (let found = fun-found j ctx left ps r at h in inr (inl (omega (arith, far, found, binders_weight-more g (length ps) (binders more)))))
  fun-more j ctx left ps r rest more rows at h (inr (inr filled)) = fun-filled j ctx left ps r rest more rows at (fun-found j ctx left ps r at h) filled (cases_lt g.limit (number_of g weights j))

  -- the arguments of a head at state i
  pub fill : (i : ℕ) (ctx : List (List ℕ)) (left w : ℕ) → IsAt d g.depth i ctx left w → (wanted : List Arg) (ns : List ℕ) (rest : ℕ) → AreNeedsOf c.needs wanted ns → AreWantedAt c d i left ns → AreTold g d weights told i ns rest → Outcome g fs ctx left wanted rest
  unfolding fits args_shallow args_weight binders
  fill i ctx left w at [] [] rest named sought are = inr (inr (record { args = no_args; fit = refl; flat = refl; light = omega arith }))
  fill i ctx left w at [] (n ∷ ns) rest named sought are = cc
  fill i ctx left w at (a ∷ more) [] rest named sought are = cc
  fill i ctx left w at (a ∷ more) (n ∷ ns) rest named sought (inl nothing) = elim (binders-low g fs (types_bound ctx) left (a ∷ more)) [
    | inl high ↦ inl high
    | inr low ↦ inr (inl (omega (arith, low, nothing)))
  ]
  fill i ctx left w at (a ∷ more) (n ∷ ns) rest named sought (inr next) = one a (state_sought d i n) refl first next (λ r later. fill i ctx left w at more ns r others (λ m need h is room. sought m need (or_right (m == n) (has m ns) h) is room) later)
    where
      first : slice_get c.needs n ≡ Some (need_of a)
      first = cc

      others : AreNeedsOf c.needs more ns
      others = cc

      there : (x : Arg) → slice_get c.needs n ≡ Some (need_of x) → ((need_of x).lambda ≡ true → 0 < left) → (j : ℕ) × (state_sought d i n ≡ Some j)
      there x is room = sought n (need_of x) (or_left (n == n) (has n ns) (eq-eqb n n refl)) is room

      deep : (l : ℕ) → left ≡ l → (ps : List ℕ) (r : ℕ) → slice_get c.needs n ≡ Some (need_of (Fun ps r)) → (o : Option ℕ) → state_sought d i n ≡ o → IfSome o (λ j. (has j told ≡ true) × AreTold g d weights told i ns (rest - number_of g weights j)) → ((q : ℕ) → AreTold g d weights told i ns q → Outcome g fs ctx l more q) → Outcome g fs ctx l (Fun ps r ∷ more) rest
      deep zero e ps r is o to next later = inl (omega arith)
      deep (suc l) e ps r is None to next later = (let t = there (Fun ps r) is (λ _. omega (arith, e)) in absurd (none_some t.0 (sym to ∙ t.1)))
      deep (suc l) e ps r is (Some j) to next later =
          let tail : IsTail c d i (Fun ps r) j = record { need = n; is = is; to = to } in
          let u : IsUnder d g.depth j ctx left ps r = fun-at c d g.depth made.wanted made.steps i j ctx left w ps r at tail in
          let left_is = u.left_is in
          let rows = at.rows in
          let inner : IsAt d g.depth j (ctx ++ ps ∷ []) l r = subst (λ x. IsAt d g.depth j (ctx ++ ps ∷ []) x r) (omega (arith, e, left_is)) u.at in
          fun-more j ctx l ps r rest more (omega (arith, rows, e)) inner next.0 (later (rest - number_of g weights j) next.1)

      one : (x : Arg) (o : Option ℕ) → state_sought d i n ≡ o → slice_get c.needs n ≡ Some (need_of x) → IfSome o (λ j. (has j told ≡ true) × AreTold g d weights told i ns (rest - number_of g weights j)) → ((q : ℕ) → AreTold g d weights told i ns q → Outcome g fs ctx left more q) → Outcome g fs ctx left (x ∷ more) rest
      one (Plain b) None to is next later = (let t = there (Plain b) is (λ l. absurd (false≢true l)) in absurd (none_some t.0 (sym to ∙ t.1)))
      one (Plain b) (Some j) to is next later =
          let tail : IsTail c d i (Plain b) j = record { need = n; is = is; to = to } in
          plain-more j ctx left b rest more (plain-at c d g.depth made.wanted made.steps i j ctx left w b at tail) next.0 (later (rest - number_of g weights j) next.1)
      one (Fun ps r) o to is next later = deep left refl ps r is o to next later
