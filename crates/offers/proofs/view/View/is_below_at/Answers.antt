use Rattle.std.proofs.Common.{◌∙◌, ap}
use Rattle.offers.specs.Views.{Outlook}
use Rattle.offers.specs.Order.{is_below}
use Rattle.offers.proofs.SubtypeTest.{test-one}
use Rattle.offers.proofs.view.View.is_below_at.Goals as goal

pub returns : goal.returns
returns c =
    let h = c.is_sub_at.ensures.exact c.self.inside.known.now c.self.invariant.ancestry in
    test-one c.self.inside.known.now c.self.inside.subtypes.now c.self.invariant.ancestry c.args.a.now c.args.b.now c.is_sub_at.result h.0 h.1 ∙ ap (λ (o : Outlook). is_below o.ancestry c.args.a.now c.args.b.now) c.self.view_is
