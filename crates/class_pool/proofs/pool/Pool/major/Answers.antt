use Rattle.std.proofs.Common.{◌∙◌, sym, ap}
use Rattle.class_pool.specs.Spelling.{Head}
use Rattle.class_pool.specs.Views.{index_seen}
use Rattle.class_pool.proofs.IndexLaws.{found_in}
use Rattle.class_pool.proofs.pool.Pool.major.Goals as goal

pub returns : goal.returns
returns c =
    let f = found_in c.self.inside.bytes.now (index_seen c.self.inside.index) c.self.invariant in
    record { is = f.major_is ∙ sym (ap (λ (h : Head). h.header.major) f.is) ∙ ap (λ (h : Head). h.header.major) c.self.view_is }
