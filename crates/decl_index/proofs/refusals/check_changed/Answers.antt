use Rattle.std.proofs.Common.{rules, map}
use Rattle.std.specs.Arc.{arc_value}
use Rattle.decl_index.specs.Changed.{Each, AvoidsItself}
use Rattle.decl_index.proofs.Kept.{stays_free}
use Rattle.decl_index.proofs.refusals.check_changed.Goals as goal

pub returns-clause-free : goal.returns-clause-free
returns-clause-free c =
    let each : Each (λ d. AvoidsItself (map arc_value c.args.classes.now) d.name) c.args.puts.now = search rules in
    stays_free c.args.removes.now c.args.puts.now (map arc_value c.args.old.now) (map arc_value c.args.classes.now) c.requires.leaves each c.requires.free
