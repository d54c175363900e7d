-- Each number within the limit is reached by a term, where the numbers are supported by the edges.
use Rattle.std.proofs.Common.{◌≡◌, inl, inr, ℕ, zero, suc, ◌+◌, ◌<◌, ◌≤◌, true, ◌&&◌, ◌==◌, nat_lt, List, [], ◌∷◌, ◌++◌, length, slice_get, Some, refl, sym, ap, subst, ◌∙◌, arith}
use Rattle.std.proofs.lemmas.Bool.{and_from, lt-ltb, or_right}
use Rattle.terms.specs.Count.{total}
use Rattle.terms.specs.Expr.{Expr, var, head, Args, no_args, plain, lam}
use Rattle.terms.specs.Faults.{IsValid}
use Rattle.terms.specs.Place.{shallow, args_shallow}
use Rattle.terms.specs.Reading.{binders}
use Rattle.terms.specs.Typing.{most_rows, type_in, fits, some_below, is_below, is_pair, joined}
use Rattle.terms.specs.Weights.{variable_weight, binders_weight, coercion_weight, step_in, weight_in, args_weight}
use Rattle.terms.specs.declared.parts.Arg.{Arg}
use Rattle.terms.specs.declared.parts.Arg.TheVariants.{Plain, Fun}
use Rattle.terms.specs.declared.parts.Decl.{Decl}
use Rattle.terms.specs.declared.parts.Parts.{Parts}
use Rattle.terms.proofs.Valid.{valid-heavy, below-itself, below-transitive}
use Rattle.terms.proofs.Weighing.{coercion-weighs, step-most, binders_weight-more}
use Rattle.succinct.specs.Compression.{Compression, IsCompression, Source, of_decl, of_pair}
use Rattle.succinct.specs.Sets.{has, types_bound}
use Rattle.patterns.specs.Patterned.{Patterned, ArePatterns}
use Rattle.patterns.specs.States.{types_at}
use Rattle.patterns.specs.declared.state.State.{State}
use Rattle.patterns.proofs.Contexts.{at_context}
use Rattle.edges.specs.Edges.{Edge, AreTails, IsSourceEdge, AreEdges, decl_cost, pair_cost}
use Rattle.edges.proofs.Offered.{listed-gives}
use Rattle.edges.proofs.Options.{some_eq}
use Rattle.least_weights.specs.Numbers.{number_at, cost, IsSupport, IsSolution}
use Rattle.patterns.proofs.Meaning.{pair-get}
use Rattle.least_weights.proofs.Joins.{split}
use Rattle.least_weights.proofs.Lows.{SplitTails, split-tails, no-tails, Fitting, step-same}
use Rattle.least_weights.proofs.Sought.{IsAt, IsUnder, plain-at, fun-at}

-- a term that fits and weighs at most so much
pub record Reached (g : Parts) (ctx : List (List ℕ)) (left b w : ℕ) : Type 0 where
  pub term : Expr
  pub fit : Fitting g ctx left b term
  pub light : weight_in g ctx term + step_in g (type_in g ctx term) b ≤ w

record ReachedArgs (g : Parts) (ctx : List (List ℕ)) (left : ℕ) (wanted : List Arg) (w : ℕ) : Type 0 where
  args : Args
  fit : fits g ctx args wanted ≡ true
  flat : args_shallow left args ≡ true
  light : args_weight g ctx args wanted ≤ binders_weight g (binders wanted) + w

pair-below : (g : Parts) (a b : ℕ) → is_pair g.pairs a b ≡ true → is_below g a b ≡ true
unfolding is_below
pair-below g a b h = or_right (a == b) (is_pair g.pairs a b) h

-- a term of a variable, and of a declaration
of-variable : (g : Parts) (ctx : List (List ℕ)) (left b n : ℕ) → slice_get (joined ctx) n ≡ Some b → Reached g ctx left b (variable_weight g)
unfolding type_in weight_in shallow
of-variable g ctx left b n h =
    let nothing : step_in g (slice_get (joined ctx) n) b ≡ 0 = ap (λ o. step_in g o b) h ∙ step-same g b b refl in
    record {
      term = var n;
      fit = record { type = b; typed = h; below = below-itself g b; flat = refl };
      light = omega (arith, nothing);
    }

of-head : (g : Parts) (ctx : List (List ℕ)) (left b n w : ℕ) (decl : Decl) → slice_get g.decls n ≡ Some decl → decl.result ≡ b → ReachedArgs g ctx left decl.args w → Reached g ctx left b (decl_cost g decl + w)
unfolding type_in weight_in shallow
of-head g ctx left b n w decl is result r =
    let typed : type_in g ctx (head n r.args) ≡ Some b = rw (is, r.fit) (ap (λ x. Some x) result) in
    let nothing : step_in g (type_in g ctx (head n r.args)) b ≡ 0 = ap (λ o. step_in g o b) typed ∙ step-same g b b refl in
    let weighs : weight_in g ctx (head n r.args) ≡ decl.weight + args_weight g ctx r.args decl.args = rw is refl in
    let light = r.light in
    record {
      term = head n r.args;
      fit = record { type = b; typed = typed; below = below-itself g b; flat = r.flat };
      light = omega (arith, nothing, weighs, light);
    }

module _ (g : Parts) (c : Compression) (d : Patterned) (edges : List Edge) (valid : IsValid g) (comp : IsCompression g c) {goal : ℕ} (made : ArePatterns c goal g.depth d) (few_rows : g.depth ≤ most_rows) (all : AreEdges g c d edges) (numbers : List ℕ) (solved : IsSolution g.limit edges numbers) where
  -- numbers below n are reached
  abbrev AreReached : ℕ → Type 0
  AreReached n = (i : ℕ) (ctx : List (List ℕ)) (left b : ℕ) → IsAt d g.depth i ctx left b → number_at g.limit numbers i ≤ g.limit → number_at g.limit numbers i < n → Reached g ctx left b (number_at g.limit numbers i)

  args-reached : (n : ℕ) → AreReached n → (i : ℕ) (ctx : List (List ℕ)) (left b : ℕ) → IsAt d g.depth i ctx left b → (wanted : List Arg) (tails : List ℕ) → AreTails c d i wanted tails → total (number_at g.limit numbers) tails ≤ g.limit → total (number_at g.limit numbers) tails < n → ReachedArgs g ctx left wanted (total (number_at g.limit numbers) tails)
  unfolding fits args_shallow args_weight binders
  args-reached n again i ctx left b at [] tails are within few = record { args = no_args; fit = refl; flat = refl; light = omega arith }
  args-reached n again i ctx left b at (Plain w ∷ wanted) tails are within few =
      let s : SplitTails c d i (Plain w) wanted tails = split-tails c d i (Plain w) wanted tails are in
      let sum : total (number_at g.limit numbers) tails ≡ number_at g.limit numbers s.first + total (number_at g.limit numbers) s.rest = ap (total (number_at g.limit numbers)) s.is in
      let inner = plain-at c d g.depth made.wanted made.steps i s.first ctx left b w at s.tail in
      let r : Reached g ctx left w (number_at g.limit numbers s.first) = again s.first ctx left w inner (omega (arith, sum, within)) (omega (arith, sum, few)) in
      let rs : ReachedArgs g ctx left wanted (total (number_at g.limit numbers) s.rest) = args-reached n again i ctx left b at wanted s.rest s.others (omega (arith, sum, within)) (omega (arith, sum, few)) in
      let l0 = r.light in
      let l1 = rs.light in
      record {
        args = plain r.term rs.args;
        fit = and_from (some_below g (type_in g ctx r.term) w) (fits g ctx rs.args wanted) (ap (λ o. some_below g o w) r.fit.typed ∙ r.fit.below) rs.fit;
        flat = and_from (shallow left r.term) (args_shallow left rs.args) r.fit.flat rs.flat;
        light = omega (arith, l0, l1, sum);
      }
  args-reached n again i ctx left b at (Fun ps t ∷ wanted) tails are within few =
      let s : SplitTails c d i (Fun ps t) wanted tails = split-tails c d i (Fun ps t) wanted tails are in
      let sum : total (number_at g.limit numbers) tails ≡ number_at g.limit numbers s.first + total (number_at g.limit numbers) s.rest = ap (total (number_at g.limit numbers)) s.is in
      let u : IsUnder d g.depth s.first ctx left ps t = fun-at c d g.depth made.wanted made.steps i s.first ctx left b ps t at s.tail in
      let under = ctx ++ ps ∷ [] in
      let r : Reached g under u.inner t (number_at g.limit numbers s.first) = again s.first under u.inner t u.at (omega (arith, sum, within)) (omega (arith, sum, few)) in
      let rs : ReachedArgs g ctx left wanted (total (number_at g.limit numbers) s.rest) = args-reached n again i ctx left b at wanted s.rest s.others (omega (arith, sum, within)) (omega (arith, sum, few)) in
      let l0 = r.light in
      let l1 = rs.light in
      let rows = at.rows in
      let inner_left = u.left_is in
      let deep : args_shallow (suc u.inner) (lam r.term rs.args) ≡ true = and_from (shallow u.inner r.term) (args_shallow (suc u.inner) rs.args) r.fit.flat (subst (λ x. args_shallow x rs.args ≡ true) inner_left rs.flat) in
      record {
        args = lam r.term rs.args;
        fit = and_from (nat_lt (length ctx) 3 && some_below g (type_in g under r.term) t) (fits g ctx rs.args wanted) (and_from (nat_lt (length ctx) 3) (some_below g (type_in g under r.term) t) (lt-ltb (length ctx) 3 (omega (arith, rows, inner_left, few_rows))) (ap (λ o. some_below g o t) r.fit.typed ∙ r.fit.below)) rs.fit;
        flat = subst (λ x. args_shallow x (lam r.term rs.args) ≡ true) (sym inner_left) deep;
        light = omega (arith, l0, l1, sum, binders_weight-more g (length ps) (binders wanted));
      }

  more : (ctx : List (List ℕ)) (left b v w : ℕ) → v ≤ w → Reached g ctx left b v → Reached g ctx left b w
  more ctx left b v w le r = (let light = r.light in record { term = r.term; fit = r.fit; light = omega (arith, light, le) })

  -- a source's result is the goal of the state at whose edge it is
  gives-at : (e : Edge) (s : IsSourceEdge g c d e) (i : ℕ) (ctx : List (List ℕ)) (left b : ℕ) → e.state ≡ i → IsAt d g.depth i ctx left b → s.source.result ≡ b
  gives-at e s i ctx left b here at =
      let at_state : slice_get d.states e.state ≡ Some at.state = ap (slice_get d.states) here ∙ at.is in
      let r = comp.of_sources.kind_of_each s.number s.offered.kind s.source s.is s.offered.is in
      sym r.2.gives ∙ listed-gives g c comp d made e.state s.offered.kind at.state r.0 at_state r.1 s.offered.listed ∙ sym at.goal

  -- the term of an edge
  edge-reached : (n : ℕ) → AreReached n → (i : ℕ) (ctx : List (List ℕ)) (left b : ℕ) → IsAt d g.depth i ctx left b → (e : Edge) → e.state ≡ i → cost g.limit numbers e ≤ g.limit → cost g.limit numbers e < suc n → IsSourceEdge g c d e → Reached g ctx left b (cost g.limit numbers e)
  edge-reached n again i ctx left b at e here within few s =
      let tails : AreTails c d i s.source.args e.tails = subst (λ x. AreTails c d x s.source.args e.tails) here s.tails in
      let gives : s.source.result ≡ b = gives-at e s i ctx left b here at in
      elim (split of_decl (decl_cost g) of_pair (pair_cost g) g.decls g.pairs s.number s.source e.weight s.is s.weight) [
        | inl r ↦ (
            let heavy = valid-heavy g valid s.number r.item r.is in
            let w = r.other in
            let args : AreTails c d i r.item.args e.tails = subst (λ (x : Source). AreTails c d i x.args e.tails) (sym r.one) tails in
            let result : r.item.result ≡ b = ap (λ (x : Source). x.result) r.one ∙ gives in
            let rs : ReachedArgs g ctx left r.item.args (total (number_at g.limit numbers) e.tails) = args-reached n again i ctx left b at r.item.args e.tails args (omega (arith, within)) (omega (arith, few, heavy, w)) in
            more ctx left b (decl_cost g r.item + total (number_at g.limit numbers) e.tails) (cost g.limit numbers e) (omega (arith, w)) (of-head g ctx left b s.number (total (number_at g.limit numbers) e.tails) r.item r.is result rs))
        | inr r ↦ (
            let w = r.other in
            let args : AreTails c d i (Plain r.item.0 ∷ []) e.tails = subst (λ (x : Source). AreTails c d i x.args e.tails) (sym r.one) tails in
            let result : r.item.1 ≡ b = ap (λ (x : Source). x.result) r.one ∙ gives in
            let t : SplitTails c d i (Plain r.item.0) [] e.tails = split-tails c d i (Plain r.item.0) [] e.tails args in
            let one : e.tails ≡ t.first ∷ [] = t.is ∙ ap (λ l. t.first ∷ l) (no-tails c d i t.rest t.others) in
            let sum : total (number_at g.limit numbers) e.tails ≡ number_at g.limit numbers t.first + 0 = ap (total (number_at g.limit numbers)) one in
            let inner = plain-at c d g.depth made.wanted made.steps i t.first ctx left b r.item.0 at t.tail in
            let from : Reached g ctx left r.item.0 (number_at g.limit numbers t.first) = again t.first ctx left r.item.0 inner (omega (arith, sum, within)) (omega (arith, sum, few, w, coercion-weighs g valid)) in
            let upper : is_below g r.item.0 b ≡ true = ap (λ x. is_below g r.item.0 x) (sym result) ∙ pair-below g r.item.0 r.item.1 (pair-get g.pairs r.place r.item r.is) in
            let light = from.light in
            let most : step_in g (type_in g ctx from.term) b ≤ coercion_weight g = subst (λ o. step_in g o b ≤ coercion_weight g) (sym from.fit.typed) (step-most g from.fit.type b) in
            record {
              term = from.term;
              fit = record { type = from.fit.type; typed = from.fit.typed; below = below-transitive g valid from.fit.type r.item.0 b from.fit.below upper; flat = from.fit.flat };
              light = omega (arith, light, most, sum, w);
            })
      ]

  reached-at : (n : ℕ) → AreReached n → (i : ℕ) (ctx : List (List ℕ)) (left b : ℕ) → IsAt d g.depth i ctx left b → number_at g.limit numbers i ≤ g.limit → number_at g.limit numbers i < suc n → Reached g ctx left b (number_at g.limit numbers i)
  reached-at n again i ctx left b at within few =
      let s : IsSupport g.limit edges numbers i = solved.supported i within in
      let reaches = s.reaches in
      elim (all.sound s.number s.edge s.is) [
        | inl v ↦ (
            let same : v.state ≡ at.state = some_eq v.state at.state (sym v.is ∙ ap (slice_get d.states) s.at_state ∙ at.is) in
            let bound : has b (types_bound ctx) ≡ true = ap (has b) at.types ∙ ap (λ x. has x (types_at d.space at.state.set)) at.goal ∙ subst (λ (x : State). has x.goal (types_at d.space x.set) ≡ true) same v.bound in
            let k = at_context ctx b bound in
            let w = v.weight in
            more ctx left b (variable_weight g) (number_at g.limit numbers i) (omega (arith, w, reaches)) (of-variable g ctx left b k.0 k.1))
        | inr e ↦ more ctx left b (cost g.limit numbers s.edge) (number_at g.limit numbers i) reaches (edge-reached n again i ctx left b at s.edge s.at_state (omega (arith, reaches, within)) (omega (arith, reaches, few)) e)
      ]

  all-reached : (n : ℕ) → AreReached n
  all-reached zero i ctx left b at within few = absurd (omega (arith, few))
  all-reached (suc n) i ctx left b at within few = reached-at n (all-reached n) i ctx left b at within few

  -- each number within the limit is reached
  pub reached : (i : ℕ) (ctx : List (List ℕ)) (left b : ℕ) → IsAt d g.depth i ctx left b → number_at g.limit numbers i ≤ g.limit → Reached g ctx left b (number_at g.limit numbers i)
  reached i ctx left b at within = all-reached (suc (number_at g.limit numbers i)) i ctx left b at within (omega arith)
