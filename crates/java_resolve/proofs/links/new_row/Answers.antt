use Rattle.std.proofs.Common.{◌≡◌, ◌∙◌, ap₂, map}
use Rattle.java_shapes.specs.Shape.{called, fresh}
use Rattle.java_resolve.specs.declared.heads.Kind.TheVariants as kind
use Rattle.java_resolve.specs.Found.{headed_in}
use Rattle.java_resolve.specs.Trees.{row_view, place_view}
use Rattle.java_resolve.specs.Reading.{IsRow}
use Rattle.java_resolve.proofs.TextFacts.{if_map}
use Rattle.java_resolve.proofs.Joining.{created}
use Rattle.java_resolve.proofs.links.new_row.Goals as goal

pub returns : goal.returns
returns c = record {
  right = λ ctx shapes set ok spots.
      let g = c.args.setting.now.env.now in
      let x = c.args.setting.now.index.now in
      if_map (λ row. row_view row ≡ headed_in g kind.New c.find.result.now (map place_view c.as_slice.result.now)) (λ row. IsRow g ctx (called fresh c.args.name.now shapes) (row_view row)) c.headed.result
      (λ row e. created g x set ctx ok c.args.name.now shapes c.as_str.result.now c.as_str.utf8 c.as_str.ensures (map place_view c.args.args.now) spots (row_view row)
      (e ∙ ap₂ (λ ns ps. headed_in g kind.New ns (map place_view ps)) c.find.ensures.value c.as_slice.ensures))
      c.headed.ensures.value;
}
