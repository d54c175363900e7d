use Rattle.std.proofs.Common.{◌≡◌, get_or, rules}
use Rattle.class_summary.specs.Names.{below_star}
use Rattle.class_summary.proofs.Searches.{star_hit, star_on, star_end}
use Rattle.class_summary.proofs.rules.starred.Goals as goal

pub loop-i-preserved : goal.loop-i-preserved
loop-i-preserved g c =
    let e : c.in_ok-class.field-0 ≡ below_star c.args.unit.now (g.C.Classes.listed c.args.known.now) c.args.name.now (get_or c.args.imports.now c.loop-i.i c.index-imports-i.result) = cc (c.in_ok-class.ensures, c.index-imports-i.is) in
    star_on c.args.unit.now (g.C.Classes.listed c.args.known.now) c.args.name.now c.args.imports.now c.loop-i.i c.index-imports-i.result c.in_ok-class.field-0 (search rules) e c.in_default.is c.loop-i.invariant

pub returns-in-loop-i : goal.returns-in-loop-i
returns-in-loop-i g c =
    let e : c.in_ok-class.field-0 ≡ below_star c.args.unit.now (g.C.Classes.listed c.args.known.now) c.args.name.now (get_or c.args.imports.now c.loop-i.i c.index-imports-i.result) = cc (c.in_ok-class.ensures, c.index-imports-i.is) in
    star_hit c.args.unit.now (g.C.Classes.listed c.args.known.now) c.args.name.now c.args.imports.now c.loop-i.i c.index-imports-i.result c.in_ok-class.field-0 c.in-Some.class (search rules) e c.in-Some.is c.loop-i.invariant

pub returns : goal.returns
returns g c = star_end c.args.unit.now (g.C.Classes.listed c.args.known.now) c.args.name.now c.args.imports.now c.loop-i.i (search rules) c.loop-i.invariant
