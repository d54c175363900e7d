use Rattle.std.proofs.Common.{◌≡◌, ◌∙◌, ap, map}
use Rattle.java_resolve.specs.declared.heads.Kind.TheVariants as kind
use Rattle.java_resolve.specs.Found.{headed_in}
use Rattle.java_resolve.specs.Index.{bucket}
use Rattle.java_resolve.specs.Trees.{row_view, place_view}
use Rattle.java_resolve.proofs.TextFacts.{if_map}
use Rattle.java_resolve.proofs.links.calls.Goals as goal

pub returns : goal.returns
returns c = record {
  value =
      let g = c.args.setting.now.env.now in
      if_map (λ row. row_view row ≡ headed_in g kind.Call c.find.result.now (map place_view c.args.args.now)) (λ row. row_view row ≡ headed_in g kind.Call (bucket c.args.setting.now.index.now c.args.name.now) (map place_view c.args.args.now)) c.headed.result
      (λ row e. e ∙ ap (λ ns. headed_in g kind.Call ns (map place_view c.args.args.now)) c.find.ensures.value)
      c.headed.ensures.value;
}
