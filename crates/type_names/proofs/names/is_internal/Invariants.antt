use Rattle.std.proofs.Common.{◌≡◌, true, drop}
use Rattle.type_names.specs.Names.{is_internal}
use Rattle.type_names.proofs.names.is_internal.Given as goal

abbrev pub invariant-loop-i : goal.invariant-loop-i
invariant-loop-i l = is_internal l.start (drop l.i l.name) ≡ is_internal true l.name
