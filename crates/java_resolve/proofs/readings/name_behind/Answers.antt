use Rattle.std.proofs.Common.{◌≡◌, ◌∙◌, ap, subst, [], ◌++◌, IfOk}
use Rattle.std.specs.Str.{chars}
use Rattle.terms.specs.Typing.{rows}
use Rattle.java_shapes.specs.Shape.{named}
use Rattle.java_resolve.specs.Trees.{row_view}
use Rattle.java_resolve.specs.Reading.{IsRow}
use Rattle.java_resolve.proofs.NameLinks.{named_as}
use Rattle.java_resolve.proofs.readings.name_behind.Goals as goal

pub returns : goal.returns
returns c = record {
  right = λ b set ok bare linked.
      let g = c.args.setting.now.env.now in
      let ctx = rows c.args.setting.now.ctx in
      let start = named_as g ctx b c.new-first.result c.args.link [] [] c.new-first.ensures.link c.new-first.ensures.text c.new-first.ensures.word linked in
      let is : c.in_ok-all.all.text ≡ c.args.name.now = c.in_ok-all.ensures.text ∙ ap (λ z. z ++ chars c.as_str.result.now) c.new-first.ensures.text ∙ c.as_str.ensures in
      subst (λ z. IfOk c.row.result (λ row. IsRow g ctx (named b z) (row_view row))) is
      (c.row.ensures.right b set ok bare (c.in_ok-all.ensures.right b set ok bare start));
}
