use Rattle.std.proofs.Common.{◌≡◌, take}
use Rattle.std.specs.List.{filter_map}
use Rattle.class_summary.specs.Summaries.{field_kept}
use Rattle.class_summary.proofs.shape.all_fields.Given as goal

abbrev pub invariant-loop-i : goal.invariant-loop-i
invariant-loop-i l = l.kept ≡ filter_map field_kept (take l.i l.members)
