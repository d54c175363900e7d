use Rattle.std.proofs.Common.{◌≡◌, ◌+◌, length, rules}
use Rattle.class_summary.proofs.Bounds.{steps_on}
use Rattle.class_summary.proofs.variables.most_steps.Goals as goal

pub loop-i-preserved : goal.loop-i-preserved
loop-i-preserved c =
    let sum : c.in_ok-count.count ≡ c.loop-i.count + length c.index-scopes-i.result.vars = search rules in
    steps_on c.args.scopes.now c.loop-i.i c.index-scopes-i.result c.loop-i.count c.in_ok-count.count (search rules) c.index-scopes-i.is sum c.loop-i.invariant
