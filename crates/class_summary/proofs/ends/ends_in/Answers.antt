use Rattle.std.proofs.Common.{◌≤◌, rules, length}
use Rattle.std.proofs.lemmas.Option.{slice_get_past}
use Rattle.class_summary.proofs.VariableEnds.{no_scopes, nothing_told}
use Rattle.class_summary.proofs.ends.ends_in.Goals as goal

pub returns-then-is_empty : goal.returns-then-is_empty
returns-then-is_empty c =
    let z : length c.args.scopes.now ≤ 0 = search rules in
    no_scopes c.args.scopes.now c.new.result.items (slice_get_past c.args.scopes.now 0 z)

pub tell_all-requires-clause-own : goal.tell_all-requires-clause-own
tell_all-requires-clause-own c = nothing_told c.args.scopes.now c.in_ok-own.own.items c.in_ok-own.ensures
