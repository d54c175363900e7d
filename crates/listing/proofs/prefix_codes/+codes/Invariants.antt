use Rattle.std.proofs.Common.{◌≡◌, ◌++◌, drop}
use Rattle.terms.specs.View.{args_view}
use Rattle.terms.specs.Code.{args_code}
use Rattle.listing.proofs.prefix_codes.+codes.Given as goal

abbrev pub invariant-push_codes-loop-i : goal.invariant-push_codes-loop-i
invariant-push_codes-loop-i l = l.code ++ args_code (args_view (drop l.i l.args)) ≡ l.fn.code ++ args_code (args_view l.args)
