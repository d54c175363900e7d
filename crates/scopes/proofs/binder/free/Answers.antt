use Rattle.std.proofs.Common.{◌-◌, false, not, get_or, length, ◌∙◌, ap, unwrap_or}
use Rattle.class_summary.specs.Names.{first_from}
use Rattle.scopes.proofs.Runs.{free_marked}
use Rattle.scopes.proofs.binder.free.Goals as goal

pub returns : goal.returns
returns c =
    c.unmarked-free.ensures
    ∙ ap (λ marks. unwrap_or (first_from (length marks - 1) 1 (λ n. not (get_or marks n false))) 1) c.as_slice.ensures.value
    ∙ free_marked c.args.runs.now c.in_ok-marks.marks.items c.marked-marks.result.items c.in_ok-marks.ensures c.marked-marks.ensures
