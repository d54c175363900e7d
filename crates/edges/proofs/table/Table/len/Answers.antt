use Rattle.std.proofs.Common.{◌≡◌, sym, ap, ◌∙◌, length, rules}
use Rattle.edges.proofs.Tables.{length-edges_of}
use Rattle.edges.proofs.table.Table.len.Goals as goal

pub returns : goal.returns
returns c = (let e : c.len.result ≡ length c.self.inside.heads.items = search rules in record { value = e ∙ sym (length-edges_of c.self.inside.heads.items c.self.inside.tails c.self.invariant) ∙ ap length c.self.view_is })
