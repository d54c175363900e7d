use Rattle.java_resolve.specs.Trees.{row_view}
use Rattle.java_resolve.proofs.Linking.{linked_first}
use Rattle.java_resolve.proofs.links.left_out.Goals as goal

pub returns : goal.returns
returns c = record { right = λ ctx set ok. linked_first c.args.setting.now.env.now ctx (row_view c.in_ok-row.row) (c.in_ok-row.ensures.right ctx set ok) }
