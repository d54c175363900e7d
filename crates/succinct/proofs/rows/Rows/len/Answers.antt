use Rattle.std.proofs.Common.{◌≡◌, sym, ap, ◌∙◌, length, rules}
use Rattle.succinct.proofs.Cuts.{length-rows}
use Rattle.succinct.proofs.rows.Rows.len.Goals as goal

pub returns : goal.returns
returns c = (let e : c.len.result ≡ length c.self.inside.ends.items = search rules in record { value = e ∙ sym (length-rows 0 c.self.inside.ends.items c.self.inside.flat.items) ∙ ap length c.self.view_is })
