use Rattle.java_resolve.specs.View.{shape_view}
use Rattle.java_resolve.proofs.Closings.{along, group_then, group_else}
use Rattle.java_resolve.proofs.closing.close_group.Goals as goal

pub returns-then-k-eq41 : goal.returns-then-k-eq41
returns-then-k-eq41 c = λ a. along c.grouped.result a _ _ (group_then a c.args.outer c.args.cast (shape_view c.args.receiver) c.args.k c.if-k-eq41.true) (c.grouped.ensures a)

pub returns-else-k-eq41 : goal.returns-else-k-eq41
returns-else-k-eq41 c = λ a. group_else a c.args.outer c.args.cast (shape_view c.args.receiver) c.args.k c.if-k-eq41.false
