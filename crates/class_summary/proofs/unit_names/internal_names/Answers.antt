use Rattle.std.proofs.Common.{arith, length}
use Rattle.class_summary.specs.Sources.{internal_name}
use Rattle.class_summary.proofs.UnitTables.{numbered_on, numbered_end}
use Rattle.class_summary.proofs.unit_names.internal_names.Goals as goal

pub loop-i-preserved : goal.loop-i-preserved
loop-i-preserved c = numbered_on (internal_name c.args.unit.now) c.loop-i.i c.in_ok-internal_name.field-0 c.loop-i.names c.push.new.self c.in_ok-internal_name.ensures.name c.in_ok-push.ensures.ok c.loop-i.invariant

pub returns : goal.returns
returns c = numbered_end (internal_name c.args.unit.now) c.loop-i.i (length c.args.unit.now.classes) c.loop-i.names (omega (arith, c.loop-i-test.false, c.loop-i.auto.i-end)) c.loop-i.invariant
