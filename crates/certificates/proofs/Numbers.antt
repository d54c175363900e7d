-- What the numbers of states say of terms: none weighs less, and one weighs as much where it is within the limit.
use Rattle.std.proofs.Common.{◌≡◌, ℕ, ◌+◌, ◌≤◌, true, List, length, get_or, Option, Some, None, sym, ap, subst, ◌∙◌, arith}
use Rattle.terms.specs.Expr.{Expr}
use Rattle.terms.specs.Place.{Place, fits_place, weigh}
use Rattle.terms.specs.Typing.{type_in}
use Rattle.terms.specs.Weights.{weight_in, step_in}
use Rattle.terms.specs.declared.parts.Parts.{Parts}
use Rattle.patterns.specs.Patterned.{Patterned}
use Rattle.patterns.specs.States.{left_at}
use Rattle.least_weights.specs.LeastWeight.{IsLeastWeight, AreLeastWeights}
use Rattle.least_weights.proofs.Lows.{Fitting, fits-parts, fits-from, weigh-is}
use Rattle.least_weights.proofs.Reached.{Reached}
use Rattle.least_weights.proofs.Sought.{IsAt}
use Rattle.checker.specs.Floors.{top}
use Rattle.certificates.specs.Told.{weight_or_top, number_of}

by-low : (g : Parts) (p : Place) (o : Option ℕ) → IsLeastWeight g g.limit p o → (e : Expr) → fits_place g p e ≡ true → weight_or_top g o ≤ weigh g p e
by-low g p None least e fits = (let above = least e fits in omega (arith, above))
by-low g p (Some w) least e fits = least.least e fits

by-most : (g : Parts) (p : Place) (o : Option ℕ) → IsLeastWeight g g.limit p o → weight_or_top g o ≤ top g
by-most g p None least = omega arith
by-most g p (Some w) least = (let within = least.within in omega (arith, within))

by-reached : (g : Parts) (ctx : List (List ℕ)) (left b : ℕ) (o : Option ℕ) → IsLeastWeight g g.limit (record { ctx = ctx; left = left; wanted = b }) o → weight_or_top g o ≤ g.limit → Reached g ctx left b (weight_or_top g o)
by-reached g ctx left b None least low = absurd (omega (arith, low))
by-reached g ctx left b (Some w) least low =
    let weighs = least.weighs in
    let is = weigh-is g ctx left b least.term in
    record { term = least.term; fit = fits-parts g ctx left b least.term least.fits; light = omega (arith, weighs, is) }

module _ (g : Parts) (d : Patterned) (weights : List (Option ℕ)) (least : AreLeastWeights g d weights) where
  is-least : (i : ℕ) (ctx : List (List ℕ)) (left b : ℕ) → IsAt d g.depth i ctx left b → IsLeastWeight g g.limit (record { ctx = ctx; left = left; wanted = b }) (get_or weights i None)
  is-least i ctx left b at =
      let rows : length ctx + left_at d.space at.state.set ≡ g.depth = ap (λ l. length ctx + l) (sym at.left_is) ∙ at.rows in
      let here = least.each i at.state at.is ctx at.types rows in
      subst (λ t. IsLeastWeight g g.limit (record { ctx = ctx; left = left; wanted = t }) (get_or weights i None)) (sym at.goal)
      (subst (λ l. IsLeastWeight g g.limit (record { ctx = ctx; left = l; wanted = at.state.goal }) (get_or weights i None)) (sym at.left_is) here)

  -- no term weighs less where the state's goal is wanted
  pub number-low : (i : ℕ) (ctx : List (List ℕ)) (left b : ℕ) → IsAt d g.depth i ctx left b → (e : Expr) → Fitting g ctx left b e → number_of g weights i ≤ weight_in g ctx e + step_in g (type_in g ctx e) b
  number-low i ctx left b at e fit =
      let low = by-low g (record { ctx = ctx; left = left; wanted = b }) (get_or weights i None) (is-least i ctx left b at) e (fits-from g ctx left b e fit) in
      let is = weigh-is g ctx left b e in
      omega (arith, low, is)

  pub number-most : (i : ℕ) (ctx : List (List ℕ)) (left b : ℕ) → IsAt d g.depth i ctx left b → number_of g weights i ≤ top g
  number-most i ctx left b at = by-most g (record { ctx = ctx; left = left; wanted = b }) (get_or weights i None) (is-least i ctx left b at)

  pub number-reached : (i : ℕ) (ctx : List (List ℕ)) (left b : ℕ) → IsAt d g.depth i ctx left b → number_of g weights i ≤ g.limit → Reached g ctx left b (number_of g weights i)
  number-reached i ctx left b at within = by-reached g ctx left b (get_or weights i None) (is-least i ctx left b at) within
