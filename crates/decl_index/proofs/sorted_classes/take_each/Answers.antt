use Rattle.std.proofs.Common.{rules, map}
use Rattle.std.specs.Arc.{arc_value}
use Rattle.decl_index.specs.History.{remove}
use Rattle.decl_index.proofs.Places.{leaves-none, leaves-next}
use Rattle.decl_index.proofs.sorted_classes.take_each.Goals as goal

pub loop-name-init : goal.loop-name-init
loop-name-init c = leaves-none (map arc_value c.args.classes.now.items) c.requires

pub loop-name-preserved : goal.loop-name-preserved
loop-name-preserved c = leaves-next remove c.args.names.now c.loop-name.name-index c.name-item.result _ _ _ (search rules) c.name-item.is c.loop-name.invariant (search rules)
