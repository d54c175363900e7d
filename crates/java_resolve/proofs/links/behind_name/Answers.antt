use Rattle.std.proofs.Common.{◌∷◌, [], ◌++◌, None}
use Rattle.java_resolve.specs.Trees.{row_view}
use Rattle.java_resolve.proofs.NameLinks.{this_link, other_link, link_as}
use Rattle.java_resolve.proofs.links.behind_name.Goals as goal

pub returns-then-is_this : goal.returns-then-is_this
returns-then-is_this c = record { right = λ g ctx b h k. this_link g ctx b c.args.text.now (row_view c.args.row) c.args.is_bare c.is_this.result c.if-is_this.true c.is_this.ensures h k }

pub returns : goal.returns
returns c = record {
  right = λ g ctx b h k.
      link_as g ctx b (c.args.text.now ++ 46 ∷ []) [] c.receiver.result (record { cast = None; row = c.args.row }) c.receiver.ensures.place c.receiver.ensures.fields c.receiver.ensures.methods
      (other_link g ctx b c.args.text.now (row_view c.args.row) c.args.is_bare c.is_this.result c.if-is_this.false c.is_this.ensures h k);
}
