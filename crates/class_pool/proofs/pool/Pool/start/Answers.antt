use Rattle.std.proofs.Common.{◌∙◌, ap, List, ℕ, get_or}
use Rattle.class_pool.specs.Spelling.{Head}
use Rattle.class_pool.specs.Index.{start_in}
use Rattle.class_pool.specs.Views.{index_seen}
use Rattle.class_pool.proofs.IndexLaws.{start_is, start_small}
use Rattle.class_pool.proofs.pool.Pool.start.Goals as goal

pub returns-clause-is : goal.returns-clause-is
returns-clause-is c =
    let is = start_is c.self.inside.bytes.now (index_seen c.self.inside.index) c.args.place c.self.invariant in
    c.start_of.ensures ∙ ap (λ (xs : List ℕ). get_or xs c.args.place 0) c.deref.ensures.value ∙ is ∙ ap (λ (h : Head). start_in h.entries c.args.place) c.self.view_is

pub returns-clause-small : goal.returns-clause-small
returns-clause-small c =
    let small = start_small c.self.inside.bytes.now (index_seen c.self.inside.index) c.args.place c.self.invariant in
    rw (c.start_of.ensures, c.deref.ensures.value) small
