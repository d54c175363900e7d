use Rattle.std.proofs.Common.{rules, map}
use Rattle.std.specs.Arc.{arc_value}
use Rattle.decl_index.proofs.Places.{without_leaves, same_leaves}
use Rattle.decl_index.proofs.sorted_classes.take_out.Goals as goal

pub returns-then-stands_at : goal.returns-then-stands_at
returns-then-stands_at c = without_leaves arc_value c.args.classes.now.items c.remove.new.self.items c.args.name.now c.place-at.result (search rules) c.requires (search rules) (search rules)

pub returns-else-stands_at : goal.returns-else-stands_at
returns-else-stands_at c = same_leaves (map arc_value c.args.classes.now.items) c.args.name.now c.place-at.result c.requires (search rules) (search rules)
