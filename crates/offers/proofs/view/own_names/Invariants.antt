use Rattle.std.proofs.Common.{◌≡◌, map}
use Rattle.std.specs.List.{range_with_len}
use Rattle.class_summary.specs.Sources.{internal_name}
use Rattle.offers.proofs.view.own_names.Given as goal

abbrev pub invariant-loop-i : goal.invariant-loop-i
invariant-loop-i l = l.own ≡ map (internal_name l.unit) (range_with_len 0 l.i)
