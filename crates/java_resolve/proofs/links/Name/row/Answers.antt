use Rattle.std.proofs.Common.{◌≡◌, ◌++◌, subst}
use Rattle.terms.specs.Typing.{rows}
use Rattle.java_shapes.specs.Shape.{named}
use Rattle.java_resolve.specs.Trees.{row_view, place_view}
use Rattle.java_resolve.specs.Reading.{IsRow}
use Rattle.java_resolve.specs.Naming.{IsBare}
use Rattle.java_resolve.proofs.TextFacts.{if_map}
use Rattle.java_resolve.proofs.Joining.{named_behind, named_bare}
use Rattle.java_resolve.proofs.links.Name.row.Goals as goal

pub returns-then-not-is_bare : goal.returns-then-not-is_bare
returns-then-not-is_bare c = record {
  right = λ b set ok bare named.
      let n = c.args.self.now in
      named_behind c.args.setting.now.env.now c.args.setting.now.index.now set (rows c.args.setting.now.ctx) ok b n.text n.word (place_view n.link.place) n.link.fields n.link.methods named (subst (λ z. IsBare z b) c.if-not-is_bare.true bare) c.as_str-text.result.now c.as_str-word.result.now c.as_str-text.utf8 c.as_str-word.utf8 c.as_str-text.ensures c.as_str-word.ensures (row_view c.in_ok-fields.fields) c.in_ok-fields.ensures.value;
}

pub returns : goal.returns
returns c = record {
  right = λ b set ok bare is_named.
      let n = c.args.self.now in
      let g = c.args.setting.now.env.now in
      if_map (λ row. row_view row ≡ row_view c.in_ok-row.row ++ row_view c.in_ok-fields.fields) (λ row. IsRow g (rows c.args.setting.now.ctx) (named b n.text) (row_view row)) c.with.result
      (λ row e. named_bare g c.args.setting.now.index.now set (rows c.args.setting.now.ctx) ok b n.text n.word (place_view n.link.place) n.link.fields n.link.methods is_named (subst (λ z. IsBare z b) c.if-not-is_bare.false bare) c.as_str-text.result.now c.as_str-word.result.now c.as_str-text.utf8 c.as_str-word.utf8 c.as_str-text.ensures c.as_str-word.ensures (row_view row) (row_view c.in_ok-row.row) (row_view c.in_ok-fields.fields) e
      (c.in_ok-row.ensures.right set.tellable.readable) c.in_ok-fields.ensures.value)
      c.with.ensures.value;
}
