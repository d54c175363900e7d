use Rattle.std.proofs.Common.{◌≡◌, ◌∙◌, ap, subst, ◌∷◌, ◌++◌, map}
use Rattle.java_resolve.specs.declared.heads.Kind.TheVariants as kind
use Rattle.java_shapes.specs.Shape.{called}
use Rattle.java_resolve.specs.Found.{headed_in}
use Rattle.java_resolve.specs.Index.{bucket}
use Rattle.java_resolve.specs.Trees.{row_view, place_view}
use Rattle.java_resolve.specs.Reading.{IsRow}
use Rattle.java_resolve.specs.Naming.{IsBare}
use Rattle.java_resolve.proofs.TextFacts.{if_map}
use Rattle.java_resolve.proofs.Joining.{called_behind, called_bare}
use Rattle.java_resolve.proofs.links.call_row.Goals as goal

pub returns-then-not-is_bare : goal.returns-then-not-is_bare
returns-then-not-is_bare c = record {
  right = λ ctx b shapes set ok bare named spots.
      let g = c.args.setting.now.env.now in
      let x = c.args.setting.now.index.now in
      let n = c.args.name in
      if_map (λ row. row_view row ≡ headed_in g n.link.methods (bucket x c.as_str-last.result.now) (place_view n.link.place ∷ map place_view c.args.args)) (λ row. IsRow g ctx (called b n.text shapes) (row_view row)) c.methods.result
      (λ row e. called_behind g x set ctx ok b n.text n.word shapes (place_view n.link.place) n.link.fields n.link.methods named (subst (λ z. IsBare z b) c.if-not-is_bare.true bare) c.as_str-all.result.now c.as_str-last.result.now c.as_str-all.utf8 c.as_str-last.utf8 c.as_str-all.ensures c.as_str-last.ensures (map place_view c.args.args) spots (row_view row) e)
      c.methods.ensures.value;
}

pub returns : goal.returns
returns c = record {
  right = λ ctx b shapes set ok bare named spots.
      let g = c.args.setting.now.env.now in
      let x = c.args.setting.now.index.now in
      let n = c.args.name in
      if_map (λ row. row_view row ≡ row_view c.in_ok-calls.calls ++ row_view c.in_ok-methods.methods) (λ row. IsRow g ctx (called b n.text shapes) (row_view row)) c.with.result
      (λ row e. called_bare g x set ctx ok b n.text n.word shapes (place_view n.link.place) n.link.fields n.link.methods named (subst (λ z. IsBare z b) c.if-not-is_bare.false bare) c.as_str-all.result.now c.as_str-last.result.now c.as_str-all.utf8 c.as_str-last.utf8 c.as_str-all.ensures c.as_str-last.ensures (map place_view c.args.args) spots (row_view row) (row_view c.in_ok-calls.calls) (row_view c.in_ok-methods.methods) e
      (c.in_ok-calls.ensures.value ∙ ap (λ z. headed_in g kind.Call (bucket x c.as_str-all.result.now) (map place_view z)) c.as_slice.ensures) c.in_ok-methods.ensures.value)
      c.with.ensures.value;
}
