use Rattle.std.proofs.Common.{subst, List, ℕ}
use Rattle.class_pool.specs.Index.{IsAt}
use Rattle.class_pool.proofs.IndexLaws.{uncons}
use Rattle.class_pool.proofs.pool.Pool.tag_at.Goals as goal

pub returns : goal.returns
returns c = subst (λ (b : List ℕ). IsAt c.args.self.now.entries c.args.place b) (uncons _ c.in-len1-up.len_at_least) c.in_ok-entry_bytes.ensures
