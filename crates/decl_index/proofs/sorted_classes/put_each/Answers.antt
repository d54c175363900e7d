use Rattle.std.proofs.Common.{rules, map}
use Rattle.std.specs.Arc.{arc_value}
use Rattle.decl_index.specs.History.{put}
use Rattle.decl_index.proofs.Places.{leaves-none, leaves-next}
use Rattle.decl_index.proofs.sorted_classes.put_each.Goals as goal

pub loop-class-init : goal.loop-class-init
loop-class-init c = leaves-none (map arc_value c.args.classes.now.items) c.requires

pub loop-class-preserved : goal.loop-class-preserved
loop-class-preserved c = leaves-next put c.args.puts.now c.loop-class.class-index c.class-item.result _ _ _ (search rules) c.class-item.is c.loop-class.invariant (search rules)
