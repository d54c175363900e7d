use Rattle.std.proofs.Common.{◌∙◌, ◌++◌, ap}
use Rattle.std.specs.List.{filter}
use Rattle.offers.specs.Missing.{is_missing, missing_in}
use Rattle.offers.specs.Views.{scene}
use Rattle.offers.proofs.Lists.{flat-on}
use Rattle.offers.proofs.interfaces.missing.Goals as goal

pub loop-place-preserved : goal.loop-place-preserved
loop-place-preserved c =
    flat-on (missing_in (scene c.args.view.now)) c.args.view.now.known c.loop-place.place c.at.result.now c.loop-place.all c.add_missing.new.all c.at.ensures c.loop-place.invariant
    (c.in_ok-add_missing.ensures ∙ ap (λ names. c.loop-place.all ++ filter (is_missing (scene c.args.view.now)) names) c.as_slice-supers.ensures)
