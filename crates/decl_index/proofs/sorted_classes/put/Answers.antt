use Rattle.std.proofs.Common.{rules}
use Rattle.std.specs.Arc.{arc_value}
use Rattle.decl_index.proofs.Places.{set_leaves, insert_leaves}
use Rattle.decl_index.proofs.sorted_classes.put.Goals as goal

pub returns-then-stands_at : goal.returns-then-stands_at
returns-then-stands_at c = set_leaves arc_value c.args.classes.now.items c.args.class c.place-at.result c.requires (search rules) (search rules)

pub returns : goal.returns
returns c = insert_leaves arc_value c.args.classes.now.items c.insert.new.self.items c.args.class c.place-at.result (search rules) c.requires (search rules) (search rules)
