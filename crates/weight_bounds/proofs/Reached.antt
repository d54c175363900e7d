-- Each number within the limit is reached by a relaxed term, where the numbers are supported by the rules.
use Rattle.std.proofs.Common.{◌≡◌, ℕ, zero, suc, ◌+◌, ◌<◌, ◌≤◌, List, [], ◌∷◌, length, refl, subst, arith}
use Rattle.terms.specs.Count.{total}
use Rattle.terms.specs.Faults.{IsValid}
use Rattle.terms.specs.Weights.{variable_weight, binders_weight, coercion_weight}
use Rattle.terms.specs.declared.parts.Arg.{Arg}
use Rattle.terms.specs.declared.parts.Arg.TheVariants.{Plain, Fun}
use Rattle.terms.specs.declared.parts.Parts.{Parts}
use Rattle.terms.proofs.Valid.{valid-depth, valid-heavy}
use Rattle.terms.proofs.Weighing.{coercion-weighs}
use Rattle.weight_bounds.specs.Relaxed.{Weighs, ArgsWeigh, variable, declared, coerced, none, value, lambda}
use Rattle.weight_bounds.specs.Bounds.{place}
use Rattle.weight_bounds.specs.Rules.{Rule, Source, of_decl, of_pair, source_rule, variable_rule, IsRule, of_variable, of_source}
use Rattle.weight_bounds.specs.Numbers.{number_at, arg_cost, cost, IsSolution, IsSupport}
use Rattle.weight_bounds.proofs.Lists.{pair-get}
use Rattle.weight_bounds.proofs.Sourced.{IsOf, decl, pair, source-of}

-- a relaxed term that weighs at most so much
pub record Reached (g : Parts) (left t w : ℕ) : Type 0 where
  pub weight : ℕ
  pub weighs : Weighs g left t weight
  pub light : weight ≤ w

record ReachedArgs (g : Parts) (left : ℕ) (args : List Arg) (w : ℕ) : Type 0 where
  weight : ℕ
  weighs : ArgsWeigh g left args weight
  light : weight ≤ w

module _ (g : Parts) (valid : IsValid g) (numbers : List ℕ) (solved : IsSolution g g.limit numbers) where
  -- numbers below n are reached
  abbrev AreReached : ℕ → Type 0
  AreReached n = (left t : ℕ) → left ≤ 3 → number_at g.limit numbers (place t left) ≤ g.limit → number_at g.limit numbers (place t left) < n → Reached g left t (number_at g.limit numbers (place t left))

  args-reached : (n : ℕ) → AreReached n → (left : ℕ) (args : List Arg) → left ≤ 3 → total (arg_cost g g.limit numbers left) args ≤ g.limit → total (arg_cost g g.limit numbers left) args < n → ReachedArgs g left args (total (arg_cost g g.limit numbers left) args)
  args-reached n again left [] few within small = record { weight = 0; weighs = none left; light = omega arith }
  args-reached n again left (Plain b ∷ more) few within small =
      let r : Reached g left b (number_at g.limit numbers (place b left)) = again left b few (omega (arith, within)) (omega (arith, small)) in
      let rs : ReachedArgs g left more (total (arg_cost g g.limit numbers left) more) = args-reached n again left more few (omega (arith, within)) (omega (arith, small)) in
      let l0 = r.light in
      let l1 = rs.light in
      record { weight = r.weight + rs.weight; weighs = value left b r.weight rs.weight more r.weighs rs.weighs; light = omega (arith, l0, l1) }
  args-reached n again zero (Fun ps t ∷ more) few within small = absurd (omega (arith, within))
  args-reached n again (suc left) (Fun ps t ∷ more) few within small =
      let r : Reached g left t (number_at g.limit numbers (place t left)) = again left t (omega (arith, few)) (omega (arith, within)) (omega (arith, small)) in
      let rs : ReachedArgs g (suc left) more (total (arg_cost g g.limit numbers (suc left)) more) = args-reached n again (suc left) more few (omega (arith, within)) (omega (arith, small)) in
      let l0 = r.light in
      let l1 = rs.light in
      record { weight = binders_weight g (length ps) + r.weight + rs.weight; weighs = lambda left t r.weight rs.weight ps more r.weighs rs.weighs; light = omega (arith, l0, l1) }

  moved : (l t left u w : ℕ) → l ≤ 3 → left ≤ 3 → place t l ≡ place u left → Reached g l t w → Reached g left u w
  moved l t left u w few few' same r =
      let types : t ≡ u = omega (arith, few, few', same) in
      let lefts : l ≡ left = omega (arith, few, few', same) in
      subst (λ x. Reached g left x w) types (subst (λ x. Reached g x t w) lefts r)

  source-reached : (n : ℕ) → AreReached n → (left k : ℕ) (s : Source) → left ≤ 3 → IsOf g k s → cost g g.limit numbers (source_rule left s) ≤ g.limit → cost g g.limit numbers (source_rule left s) < suc n → Reached g left s.result (cost g g.limit numbers (source_rule left s))
  source-reached n again left k s few (decl k' d is) within small =
      let heavy = valid-heavy g valid k' d is in
      let sum : cost g g.limit numbers (source_rule left (of_decl d)) ≡ d.weight + total (arg_cost g g.limit numbers left) d.args = refl in
      let rs : ReachedArgs g left d.args (total (arg_cost g g.limit numbers left) d.args) = args-reached n again left d.args few (omega (arith, sum, within)) (omega (arith, sum, small, heavy)) in
      let light = rs.light in
      record { weight = d.weight + rs.weight; weighs = declared left k' rs.weight d is rs.weighs; light = omega (arith, sum, light) }
  source-reached n again left k s few (pair j p is) within small =
      let some = coercion-weighs g valid in
      let sum : cost g g.limit numbers (source_rule left (of_pair g p)) ≡ coercion_weight g + (number_at g.limit numbers (place p.0 left) + 0) = refl in
      let r : Reached g left p.0 (number_at g.limit numbers (place p.0 left)) = again left p.0 few (omega (arith, sum, within)) (omega (arith, sum, small, some)) in
      let light = r.light in
      record { weight = r.weight + coercion_weight g; weighs = coerced left p.0 p.1 r.weight (pair-get g.pairs j p is) r.weighs; light = omega (arith, sum, light) }

  rule-reached : (n : ℕ) → AreReached n → (left t w : ℕ) (r : Rule) → left ≤ 3 → IsRule g r → r.at ≡ place t left → cost g g.limit numbers r ≤ w → w ≤ g.limit → w < suc n → Reached g left t w
  rule-reached n again left t w r few (of_variable l u under bound) same reaches within small =
      let depth = valid-depth g valid in
      let nothing : cost g g.limit numbers (variable_rule g l u) ≡ variable_weight g + 0 = refl in
      moved l u left t w (omega (arith, under, depth)) few same (record { weight = variable_weight g; weighs = variable l u under bound; light = omega (arith, reaches, nothing) })
  rule-reached n again left t w r few (of_source l k s deep is) same reaches within small =
      let depth = valid-depth g valid in
      let made : Reached g l s.result (cost g g.limit numbers (source_rule l s)) = source-reached n again l k s (omega (arith, deep, depth)) (source-of g k s is) (omega (arith, reaches, within)) (omega (arith, reaches, small)) in
      let light = made.light in
      moved l s.result left t w (omega (arith, deep, depth)) few same (record { weight = made.weight; weighs = made.weighs; light = omega (arith, light, reaches) })

  all-reached : (n : ℕ) → AreReached n
  all-reached zero left t few within small = absurd (omega (arith, small))
  all-reached (suc n) left t few within small =
      let s : IsSupport g g.limit numbers (place t left) = solved.supported (place t left) within in
      rule-reached n (all-reached n) left t (number_at g.limit numbers (place t left)) s.rule few s.is s.here s.reaches within small

  pub reached : (left t : ℕ) → left ≤ 3 → number_at g.limit numbers (place t left) ≤ g.limit → Reached g left t (number_at g.limit numbers (place t left))
  reached left t few within = all-reached (suc (number_at g.limit numbers (place t left))) left t few within (omega arith)
