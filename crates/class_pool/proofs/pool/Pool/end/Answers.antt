use Rattle.class_pool.proofs.IndexLaws.{end_of}
use Rattle.class_pool.specs.Views.{index_seen}
use Rattle.class_pool.proofs.pool.Pool.end.Goals as goal

pub returns : goal.returns
returns c = record { is = rw (← c.self.view_is) (end_of c.self.inside.bytes.now (index_seen c.self.inside.index) c.self.invariant) }
