use Rattle.std.proofs.Common.{◌∙◌, ap}
use Rattle.reconstruction.specs.Totals.{lower_in}
use Rattle.reconstruction.specs.Ways.{edge_at}
use Rattle.reconstruction.proofs.Ways.{edge-get}
use Rattle.reconstruction.proofs.heads.lower_of.Goals as goal

pub returns : goal.returns
returns c =
    let t = c.args.tables.now in
    let e = edge_at t.edges c.args.edge in
    let at = edge-get t.edges c.args.edge c.requires.in_range in
    record { value = c.lower.ensures.value ∙ ap (λ g. lower_in g c.source.result c.tails.result.now) c.parts.ensures.value ∙ ap (λ o. lower_in t.env o c.tails.result.now) (c.source.ensures.value e at) ∙ ap (lower_in t.env e.source) (c.tails.ensures.value e at) }
