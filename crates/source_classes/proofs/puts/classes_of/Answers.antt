use Rattle.std.proofs.Common.{subst, List}
use Rattle.std.specs.Prelude.{IfOk}
use Rattle.known_classes.specs.declared.summary.ClassSummary.{ClassSummary}
use Rattle.source_classes.specs.SourceClasses.{AreSourceClasses}
use Rattle.source_classes.proofs.PutsLeft.{known_seen}
use Rattle.source_classes.proofs.puts.classes_of.Goals as goal

pub returns : goal.returns
returns g c =
    subst (λ (ks : List ClassSummary). IfOk c.source_classes.result (AreSourceClasses c.args.texts.now ks))
    (known_seen c.in_ok-nothing.nothing c.in_ok-told.told c.in_ok-in_sight.in_sight c.args.puts.now c.args.known.now c.in_ok-nothing.ensures.state c.in_ok-told.ensures c.in_ok-in_sight.ensures)
    c.source_classes.ensures.exact
