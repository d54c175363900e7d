use Rattle.std.proofs.Common.{◌≡◌, ◌∙◌, ap}
use Rattle.class_summary.specs.SourceSummaries.{summaries_of}
use Rattle.source_classes.proofs.Threaded.{threaded}
use Rattle.source_classes.proofs.classes.each_summaries.Goals as goal

pub returns : goal.returns
returns g c =
    let slice = ap (λ it. it.slice.now) c.with_min_len.ensures.base ∙ c.par_iter.ensures in
    let h = c.in_ok-collect.ensures in
    let chain = rw (c.map.ensures.base, c.map.ensures.f) at h.1 in
    threaded (λ u all. all ≡ summaries_of u (g.C.Classes.listed c.args.known.now)) c.args.sources.now chain.0 h.0 c.in_ok-collect.field-0 (chain.1 ∙ slice) chain.2 h.2
