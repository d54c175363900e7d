-- No relaxed term weighs less than the number of its place, where the numbers are closed under the rules.
use Rattle.std.proofs.Common.{◌≡◌, ℕ, suc, ◌+◌, ◌≤◌, List, [], ◌∷◌, slice_get, Some, refl, arith}
use Rattle.terms.specs.Count.{total}
use Rattle.terms.specs.Weights.{variable_weight}
use Rattle.terms.specs.declared.parts.Arg.{Arg}
use Rattle.terms.specs.declared.parts.Arg.TheVariants.{Plain}
use Rattle.terms.specs.declared.parts.Parts.{Parts}
use Rattle.weight_bounds.specs.Relaxed.{Weighs, ArgsWeigh, variable, declared, coerced, none, value, lambda}
use Rattle.weight_bounds.specs.Bounds.{place}
use Rattle.weight_bounds.specs.Rules.{Source, of_decl, of_pair, sources, source_rule, variable_rule, of_variable, of_source}
use Rattle.weight_bounds.specs.Numbers.{number_at, arg_cost, IsSolution}
use Rattle.weight_bounds.proofs.Sourced.{source-decl, source-pair}

module _ (g : Parts) (numbers : List ℕ) (solved : IsSolution g g.limit numbers) where
  -- what a source gives
  by-source : (left k : ℕ) (s : Source) (v : ℕ) → left ≤ g.depth → slice_get (sources g) k ≡ Some s → total (arg_cost g g.limit numbers left) s.args ≤ v → s.weight + v ≤ g.limit → number_at g.limit numbers (place s.result left) ≤ s.weight + v
  by-source left k s v deep is args within =
      let closed : s.weight + total (arg_cost g g.limit numbers left) s.args ≤ g.limit → number_at g.limit numbers (place s.result left) ≤ s.weight + total (arg_cost g g.limit numbers left) s.args = solved.closed (source_rule left s) (of_source left k s deep is) in
      let most = closed (omega (arith, args, within)) in
      omega (arith, args, most)

  mutual
    pub low : (left t w : ℕ) → left ≤ g.depth → Weighs g left t w → w ≤ g.limit → number_at g.limit numbers (place t left) ≤ w
    low left t w deep (variable left' t' under bound) within =
        let closed : variable_weight g + 0 ≤ g.limit → number_at g.limit numbers (place t' left') ≤ variable_weight g + 0 = solved.closed (variable_rule g left' t') (of_variable left' t' under bound) in
        let most = closed (omega (arith, within)) in
        omega (arith, most)
    low left t w deep (declared left' i v d is args) within =
        let rest = args-low left' d.args v deep args (omega (arith, within)) in
        by-source left' i (of_decl d) v deep (source-decl g i d is) rest within
    low left t w deep (coerced left' a b v pair inner) within =
        let below = low left' a v deep inner (omega (arith, within)) in
        let s = source-pair g a b pair in
        let one : total (arg_cost g g.limit numbers left') (Plain a ∷ []) ≡ number_at g.limit numbers (place a left') + 0 = refl in
        let r = by-source left' s.0 (of_pair g (a, b)) v deep s.1 (omega (arith, below, one)) (omega (arith, within)) in
        omega (arith, r)

    args-low : (left : ℕ) (args : List Arg) (w : ℕ) → left ≤ g.depth → ArgsWeigh g left args w → w ≤ g.limit → total (arg_cost g g.limit numbers left) args ≤ w
    args-low left args w deep (none left') within = omega arith
    args-low left args w deep (value left' b v u more first rest) within =
        let x = low left' b v deep first (omega (arith, within)) in
        let y = args-low left' more u deep rest (omega (arith, within)) in
        omega (arith, x, y)
    args-low left args w deep (lambda l r v u ps more first rest) within =
        let x = low l r v (omega (arith, deep)) first (omega (arith, within)) in
        let y = args-low (suc l) more u deep rest (omega (arith, within)) in
        omega (arith, x, y)
