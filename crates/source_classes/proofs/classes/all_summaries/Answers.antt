use Rattle.std.proofs.Common.{List}
use Rattle.java_units.specs.declared.types.Unit as unit
use Rattle.rayon.proofs.ListFacts.{IfOk-then}
use Rattle.known_classes.specs.declared.summary.ClassSummary.{ClassSummary}
use Rattle.class_summary.specs.SourceSummaries.{summaries_of}
use Rattle.source_classes.proofs.Threaded.{row_by_row}
use Rattle.source_classes.proofs.classes.all_summaries.Goals as goal

pub returns : goal.returns
returns g c =
    let f : unit.Unit → List ClassSummary = λ u. summaries_of u (g.C.Classes.listed c.args.known.now) in
    IfOk-then c.in_a_row.result _ _ c.in_a_row.ensures (λ all e. row_by_row f c.args.sources.now c.in_ok-each_summaries.field-0.items all c.in_ok-each_summaries.ensures e)
