use Rattle.std.proofs.Common.{◌≡◌, length, slice_get, ap, ◌∙◌, arith, rules, vec_len}
use Rattle.std.proofs.lemmas.Option.{get_or_from_slice_get}
use Rattle.edges.specs.Made.{edge_of}
use Rattle.edges.proofs.Tables.{stands-at, length-edges_of}
use Rattle.edges.proofs.table.Table.head.Goals as goal

pub index-requires : goal.index-requires
index-requires c =
    let low = c.requires.in_range in
    let shown = ap length c.self.view_is in
    let long = length-edges_of c.self.inside.heads.items c.self.inside.tails c.self.invariant in
    let len : vec_len c.self.inside.heads ≡ length c.self.inside.heads.items = search rules in
    omega (arith, low, shown, long, len)

pub returns : goal.returns
returns c = record {
  value = λ e at. (
      let s = stands-at c.self.inside.heads.items c.self.inside.tails c.args.edge e (ap (λ l. slice_get l c.args.edge) c.self.view_is ∙ at) in
      ap (λ h. edge_of h e.tails) (c.index.ensures ∙ get_or_from_slice_get c.self.inside.heads.items c.args.edge s.head _ s.is) ∙ s.edge);
}
