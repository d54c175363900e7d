use Rattle.std.proofs.Common.{arith, rules, length}
use Rattle.offers.specs.Views.{scene}
use Rattle.offers.proofs.Shortest.{short-start, short-hit, short-on}
use Rattle.offers.proofs.spelling.shortest.Goals as goal

pub loop-left-init : goal.loop-left-init
loop-left-init c = (short-start (scene c.args.view.now) c.args.name.now c.args.parts.now (length c.args.parts.now) (omega arith), omega arith)

pub returns-then-branch : goal.returns-then-branch
returns-then-branch c = short-hit (scene c.args.view.now) c.args.name.now c.args.parts.now c.loop-left.left c.in_ok-text.text (omega arith) c.loop-left.invariant.1 c.loop-left.invariant.0 (search rules) (search rules)

pub loop-left-preserved : goal.loop-left-preserved
loop-left-preserved c = short-on (scene c.args.view.now) c.args.name.now c.args.parts.now c.loop-left.left (omega arith) c.loop-left.invariant.1 c.loop-left.invariant.0 (search rules)
