use Rattle.std.proofs.Common.{arith, rules, length, bytes_eq}
use Rattle.class_summary.specs.Sources.{canonical_name}
use Rattle.class_summary.specs.Names.{own_by_canonical}
use Rattle.offers.proofs.Named.{first-hit, first-on, first-end}
use Rattle.offers.proofs.reach.own_by_canonical.Goals as goal

pub returns-then-eq : goal.returns-then-eq
returns-then-eq c = first-hit (own_by_canonical c.args.unit.now c.args.name.now) (length c.args.unit.now.classes) c.loop-i.i (λ i. bytes_eq c.args.name.now (canonical_name c.args.unit.now i)) (omega arith) c.loop-i.invariant (search rules)

pub loop-i-preserved : goal.loop-i-preserved
loop-i-preserved c = first-on (own_by_canonical c.args.unit.now c.args.name.now) (length c.args.unit.now.classes) c.loop-i.i (λ i. bytes_eq c.args.name.now (canonical_name c.args.unit.now i)) (omega arith) c.loop-i.invariant (search rules)

pub returns : goal.returns
returns c = first-end (own_by_canonical c.args.unit.now c.args.name.now) (length c.args.unit.now.classes) c.loop-i.i (λ i. bytes_eq c.args.name.now (canonical_name c.args.unit.now i)) (omega arith) c.loop-i.invariant
