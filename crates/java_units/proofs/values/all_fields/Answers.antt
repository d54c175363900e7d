use Rattle.std.proofs.Common.{rules}
use Rattle.java_units.specs.Signs.{seen}
use Rattle.java_units.specs.Values.{field_of}
use Rattle.java_units.proofs.Lists.{map_on, map_end}
use Rattle.java_units.proofs.values.all_fields.Goals as goal

pub loop-i-preserved : goal.loop-i-preserved
loop-i-preserved c = map_on (field_of c.args.flags (seen c.args.lexemes.now)) c.args.places.now c.loop-i.i _ c.loop-i.all c.push.new.self c.in_ok-field_of.field-0 (search rules) c.in_ok-field_of.ensures c.in_ok-push.ensures.ok c.loop-i.invariant

pub returns : goal.returns
returns c = map_end (field_of c.args.flags (seen c.args.lexemes.now)) c.args.places.now c.loop-i.i c.loop-i.all (search rules) c.loop-i.invariant
