use Rattle.std.proofs.Common.{◌≡◌, ◌∙◌, ap₂, ◌∷◌, [], map}
use Rattle.java_resolve.specs.Found.{headed_in}
use Rattle.java_resolve.specs.Index.{bucket}
use Rattle.java_resolve.specs.Trees.{row_view, place_view}
use Rattle.java_resolve.proofs.TextFacts.{if_map}
use Rattle.java_resolve.proofs.links.fields.Goals as goal

pub returns : goal.returns
returns c = record {
  value =
      let g = c.args.setting.now.env.now in
      let k = c.args.link.now.fields in
      if_map (λ row. row_view row ≡ headed_in g k c.find.result.now (map place_view c.from_ref-place.result.now)) (λ row. row_view row ≡ headed_in g k (bucket c.args.setting.now.index.now c.args.word.now) (place_view c.args.link.now.place ∷ [])) c.headed.result
      (λ row e. e ∙ ap₂ (λ ns ps. headed_in g k ns (map place_view ps)) c.find.ensures.value c.from_ref-place.ensures.value)
      c.headed.ensures.value;
}
