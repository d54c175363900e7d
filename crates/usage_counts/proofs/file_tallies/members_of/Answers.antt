use Rattle.std.proofs.Common.{arith, length, ◌≢◌}
use Rattle.std.proofs.lemmas.Result.{err_from_is_err_and}
use Rattle.code_walk.specs.declared.fault.WalkCause.TheVariants.{OutOfMemory}
use Rattle.std.specs.List.{flat_map}
use Rattle.usage_counts.specs.Files.{LiesIn}
use Rattle.usage_counts.specs.Tallies.{key_at}
use Rattle.usage_counts.proofs.ListLaws.{all-at}
use Rattle.usage_counts.proofs.UseLaws.{uses-here, fault-here}
use Rattle.usage_counts.proofs.file_tallies.members_of.Goals as goal

pub add_code-requires-clause-in_order : goal.add_code-requires-clause-in_order
add_code-requires-clause-in_order c = (all-at (LiesIn (length c.args.bytes.now)) c.args.ranges.now c.loop-range.range-index _ c.requires.within (omega arith)).0

pub add_code-requires-clause-in_file : goal.add_code-requires-clause-in_file
add_code-requires-clause-in_file c = (all-at (LiesIn (length c.args.bytes.now)) c.args.ranges.now c.loop-range.range-index _ c.requires.within (omega arith)).1

pub loop-range-preserved : goal.loop-range-preserved
loop-range-preserved c =
    uses-here c.args.pool.now.entries c.args.bytes.now c.args.ranges.now c.loop-range.range-index _ (flat_map (key_at c.args.pool.now.entries) c.loop-range.members.items) (flat_map (key_at c.args.pool.now.entries) c.add_code.new.members.items) (omega arith) c.loop-range.invariant c.in_ok-add_code.ensures.found

pub returns-in_err-add_code-clause-first : goal.returns-in_err-add_code-clause-first
returns-in_err-add_code-clause-first c =
    let p = err_from_is_err_and c.from_residual.result c.from_residual.ensures.1 in
    let fault = c.in_err-add_code.field-0.0 in
    rw (p.1, p.2) (λ (h : fault.cause ≢ OutOfMemory). fault-here c.args.pool.now.entries c.args.bytes.now c.args.ranges.now c.loop-range.range-index _ (flat_map (key_at c.args.pool.now.entries) c.loop-range.members.items) fault (omega arith) c.loop-range.invariant (c.in_err-add_code.ensures.first h))
