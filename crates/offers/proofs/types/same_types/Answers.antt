use Rattle.std.proofs.Common.{arith, rules}
use Rattle.offers.specs.Omissions.{same_types}
use Rattle.offers.proofs.SameTypes.{types-apart, types-no, types-on, types-end}
use Rattle.offers.proofs.types.same_types.Goals as goal

pub returns-then-a-b : goal.returns-then-a-b
returns-then-a-b c = types-apart c.args.a.now c.args.b.now c.if-a-b.true

pub returns-then-not-same_type : goal.returns-then-not-same_type
returns-then-not-same_type c = types-no (same_types c.args.a.now c.args.b.now) c.args.a.now c.args.b.now c.loop-i.i c.index-a-i.result c.index-b-i.result c.same_type.result (omega arith) (omega arith) c.index-a-i.is c.index-b-i.is c.loop-i.invariant c.same_type.ensures (search rules)

pub loop-i-preserved : goal.loop-i-preserved
loop-i-preserved c = types-on (same_types c.args.a.now c.args.b.now) c.args.a.now c.args.b.now c.loop-i.i c.index-a-i.result c.index-b-i.result c.same_type.result (omega arith) (omega arith) c.index-a-i.is c.index-b-i.is c.loop-i.invariant c.same_type.ensures (search rules)

pub returns : goal.returns
returns c = types-end (same_types c.args.a.now c.args.b.now) c.args.a.now c.args.b.now c.loop-i.i (omega arith) (omega arith) c.loop-i.invariant
