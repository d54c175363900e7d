use Rattle.std.proofs.Common.{◌≡◌, Some, subst}
use Rattle.std.specs.Prelude.{IfSome}
use Rattle.std.proofs.lemmas.List.Elements.{All-pop}
use Rattle.version_board.specs.Views.{newcomer}
use Rattle.version_board.specs.declared.view.View.{View}
use Rattle.serving.proofs.seats.seat_with.Goals as goal

pub returns-clause-newcomers : goal.returns-clause-newcomers
returns-clause-newcomers g c =
    let P = λ (p : View). p ≡ newcomer g.J.Naming.first in
    (All-pop P c.args.passes.now.items c.pop.new.self.items c.pop.result c.pop.ensures.items c.requires.newcomers).0

pub returns-clause-pass : goal.returns-clause-pass
returns-clause-pass g c =
    let P = λ (p : View). p ≡ newcomer g.J.Naming.first in
    let is : c.pop.result ≡ Some c.unwrap-pass.result = c.unwrap-pass.ensures in
    subst (λ o. IfSome o P) is (All-pop P c.args.passes.now.items c.pop.new.self.items c.pop.result c.pop.ensures.items c.requires.newcomers).1
