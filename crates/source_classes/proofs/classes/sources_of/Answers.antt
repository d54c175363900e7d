use Rattle.std.proofs.Common.{◌≡◌, ◌∙◌, ◌≤◌, ap, length, sym, subst, ℕ, List}
use Rattle.std.proofs.Crossing.{crosses, frees}
use denote.Param.Send.{sendable}
use Rattle.source_classes.specs.TextUnits.{IsUnitOf}
use Rattle.source_classes.proofs.Threaded.{threaded}
use Rattle.source_classes.proofs.classes.sources_of.Goals as goal

pub returns : goal.returns
returns g c =
    let slice = ap (λ it. it.base.slice.now) c.map.ensures.base ∙ ap (λ it. it.slice.now) c.with_min_len.ensures.base ∙ c.par_iter.ensures in
    let h = c.in_ok-collect.ensures in
    threaded IsUnitOf c.args.texts.now h.1.0 h.0 c.in_ok-collect.field-0 (h.1.1 ∙ slice) h.1.2 h.2
