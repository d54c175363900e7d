use Rattle.std.proofs.Common.{◌≡◌, ◌∙◌, ap, [], ◌++◌}
use Rattle.std.specs.Str.{chars}
use Rattle.terms.specs.Typing.{rows}
use Rattle.java_resolve.specs.declared.heads.Kind.TheVariants as kind
use Rattle.java_resolve.specs.Found.{headed_in}
use Rattle.java_resolve.specs.Trees.{row_view}
use Rattle.java_resolve.specs.Reading.{IsAloneRow}
use Rattle.java_resolve.proofs.TextFacts.{if_map}
use Rattle.java_resolve.proofs.links.alone.Goals as goal

pub returns : goal.returns
returns c = record {
  right = λ readable.
      let g = c.args.setting.now.env.now in
      let vars = row_view c.in_ok-variable.variable in
      if_map (λ row. row_view row ≡ row_view c.in_ok-row.row ++ vars) (λ row. IsAloneRow g c.args.setting.now.index.now (rows c.args.setting.now.ctx) c.args.text.now (row_view row)) c.with.result
      (λ row e. record {
        vars = vars;
        right = c.in_ok-variable.ensures.right readable;
        is = e ∙ ap (λ z. z ++ vars) (c.in_ok-row.ensures.value ∙ ap (λ ns. headed_in g kind.Alone ns []) c.find.ensures.value);
      })
      c.with.ensures.value;
}
