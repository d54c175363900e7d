use Rattle.std.proofs.Common.{◌≡◌, ◌∙◌, ap, sym, subst, [], codes}
use Rattle.java_resolve.specs.declared.heads.Kind.TheVariants as kind
use Rattle.java_resolve.specs.Found.{headed_in}
use Rattle.java_resolve.specs.Trees.{row_view}
use Rattle.java_resolve.specs.Reading.{IsRow, this_shape}
use Rattle.java_resolve.proofs.TextFacts.{if_map}
use Rattle.java_resolve.proofs.Linking.{this_row}
use Rattle.java_resolve.proofs.links.this_row.Goals as goal

pub returns : goal.returns
returns c = record {
  right = λ ctx set ok.
      let g = c.args.setting.now.env.now in
      if_map (λ row. row_view row ≡ headed_in g kind.Alone c.find.result.now []) (λ row. IsRow g ctx this_shape (row_view row)) c.headed.result
      (λ row e. subst (IsRow g ctx this_shape) (sym (e ∙ ap (λ ns. headed_in g kind.Alone ns []) (c.find.ensures.value ∙ set.index (codes "this")))) (this_row g set.tellable ctx ok))
      c.headed.ensures.value;
}
