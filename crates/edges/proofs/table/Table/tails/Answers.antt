use Rattle.std.proofs.Common.{[], slice_get, ap, ◌∙◌}
use Rattle.std.proofs.lemmas.Option.{get_or_from_slice_get}
use Rattle.edges.proofs.Tables.{stands-at}
use Rattle.edges.proofs.table.Table.tails.Goals as goal

pub returns : goal.returns
returns c = record {
  value = λ e at. (
      let s = stands-at c.self.inside.heads.items c.self.inside.tails c.args.edge e (ap (λ l. slice_get l c.args.edge) c.self.view_is ∙ at) in
      c.row.ensures.value ∙ get_or_from_slice_get c.self.inside.tails c.args.edge e.tails [] s.row);
}
