use Rattle.std.proofs.Common.{subst, length, List, Option}
use Rattle.class_summary.specs.VariableEnds.{Reach, IsClosed}
use Rattle.class_summary.proofs.VariableEnds.{all_told}
use Rattle.class_summary.proofs.ends.tell_open.Goals as goal

pub returns-in_default : goal.returns-in_default
returns-in_default c =
    let ss = c.args.scopes.now in
    let P : List (Option Reach) → Type 0 = λ own. IsClosed ss own (length own) in
    all_told ss c.loop-told.own.items c.loop-told.invariant (subst P c.as_slice.ensures.value (c.in_ok-place.ensures c.in_default.is))
