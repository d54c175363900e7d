use Rattle.std.proofs.Common.{◌++◌}
use Rattle.known_classes.specs.Known.{dotted}
use Rattle.known_classes.proofs.Dots.{dots_on, dots_end}
use Rattle.known_classes.proofs.canonical_text.push_dotted.Goals as goal

pub loop-prefix-preserved : goal.loop-prefix-preserved
loop-prefix-preserved c = (c.in-Some.ensures.2, dots_on (c.args.text.now ++ dotted c.args.name.now) c.loop-prefix.text c.loop-prefix.rest.now c.in-Some.prefix.now c.in-Some.more.now c.push_str.new.self c.push_str-in-Some.new.self c.in-Some.ensures.0 c.in_ok-push_str.ensures.ok c.in_ok-push_str-2.ensures.ok c.loop-prefix.invariant.1)

pub returns : goal.returns
returns c = dots_end (c.args.text.now ++ dotted c.args.name.now) c.loop-prefix.text c.loop-prefix.rest.now c.push_str-2.new.self c.in_default.ensures c.in_ok-push_str-3.ensures.ok c.loop-prefix.invariant.1
