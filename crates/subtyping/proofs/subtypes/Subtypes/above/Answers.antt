use Rattle.std.proofs.Common.{rules, ◌≡◌, ℕ, zero, suc, List, [], ◌∷◌, get_or, Some, None, refl, slice_get}
use Rattle.subtyping.specs.Places.{AllRise}
use Rattle.subtyping.proofs.Nodes.{row-rises}
use Rattle.subtyping.proofs.subtypes.Subtypes.above.Goals as goal

no-row : (rows : List (List ℕ)) (i : ℕ) → slice_get rows i ≡ None → [] ≡ get_or rows i []
no-row [] zero e = refl
no-row [] (suc i) e = refl
no-row (r ∷ rows) zero e = absurd cc
no-row (r ∷ rows) (suc i) e = no-row rows i e

pub returns-in-Some-clause-rises : goal.returns-in-Some-clause-rises
returns-in-Some-clause-rises c =
    let rises : AllRise c.args.self.now.rows = search rules in
    let at : slice_get c.args.self.now.rows c.args.place ≡ Some c.as_slice.result.now = search rules in
    row-rises c.args.self.now.rows c.args.place c.as_slice.result.now rises at

pub returns-in-None-clause-above : goal.returns-in-None-clause-above
returns-in-None-clause-above c =
    let none : slice_get c.args.self.now.rows c.args.place ≡ None = search rules in
    no-row c.args.self.now.rows c.args.place none
