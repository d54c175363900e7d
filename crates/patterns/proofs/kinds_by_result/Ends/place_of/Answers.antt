use Rattle.std.proofs.Common.{sym, refl, subst}
use Rattle.std.proofs.lemmas.Bool.{eq-eqb}
use Rattle.succinct.specs.Compression.{AreDistinct}
use Rattle.succinct.proofs.Needs.{distinct_from}
use Rattle.patterns.specs.States.{EndTable}
use Rattle.patterns.proofs.Tables.{position-is}
use Rattle.patterns.proofs.kinds_by_result.Ends.place_of.Goals as goal

pub returns-in-Some : goal.returns-in-Some
returns-in-Some c =
    let distinct : AreDistinct c.args.self.now.goals = subst (λ (t : EndTable). AreDistinct t.goals) c.self.view_is (distinct_from _ (λ x. eq-eqb x x refl) _ c.len.ensures.unique) in
    record { value = sym (position-is c.args.self.now.goals c.args.goal c.in-Some.place distinct c.in-Some.ensures.is) }
