use Rattle.std.proofs.Common.{◌≡◌, true}
use Rattle.java_bodies.specs.Blocks.{is_allowed_at, all_below}
use Rattle.java_bodies.proofs.blocks.is_in_blocks.Given as goal

abbrev pub invariant-loop-k : goal.invariant-loop-k
invariant-loop-k l = all_below (is_allowed_at l.body.before) l.k ≡ true
