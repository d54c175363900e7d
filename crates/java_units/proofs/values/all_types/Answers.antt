use Rattle.std.proofs.Common.{rules}
use Rattle.java_units.specs.Values.{type_text}
use Rattle.java_units.proofs.Lists.{map_on, map_end}
use Rattle.java_units.proofs.values.all_types.Goals as goal

pub loop-i-preserved : goal.loop-i-preserved
loop-i-preserved c = map_on (type_text 0) c.args.places.now c.loop-i.i _ c.loop-i.all c.push.new.self c.in_ok-type_text.field-0 (search rules) c.in_ok-type_text.ensures.exact c.in_ok-push.ensures.ok c.loop-i.invariant

pub returns : goal.returns
returns c = map_end (type_text 0) c.args.places.now c.loop-i.i c.loop-i.all (search rules) c.loop-i.invariant
