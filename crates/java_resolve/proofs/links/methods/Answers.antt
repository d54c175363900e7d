use Rattle.std.proofs.Common.{◌≡◌, ◌∙◌, ap, ap₂, ◌∷◌, [], ◌++◌, map}
use Rattle.java_resolve.specs.Found.{headed_in}
use Rattle.java_resolve.specs.Index.{bucket}
use Rattle.java_resolve.specs.Trees.{row_view, place_view}
use Rattle.java_resolve.proofs.TextFacts.{if_map}
use Rattle.java_resolve.proofs.links.methods.Goals as goal

pub returns : goal.returns
returns c = record {
  value =
      let g = c.args.setting.now.env.now in
      let k = c.args.link.methods in
      if_map (λ row. row_view row ≡ headed_in g k c.find.result.now (map place_view c.as_slice.result.now)) (λ row. row_view row ≡ headed_in g k (bucket c.args.setting.now.index.now c.args.word.now) (place_view c.args.link.place ∷ map place_view c.args.args)) c.headed.result
      (λ row e. e ∙ ap₂ (λ ns ps. headed_in g k ns (map place_view ps)) c.find.ensures.value (c.as_slice.ensures ∙ c.in_ok-append.ensures ∙ ap (λ z. z ++ c.args.args) (c.in_ok-push.ensures.ok ∙ ap (λ z. z ++ c.args.link.place ∷ []) c.new-places.ensures)))
      c.headed.ensures.value;
}
