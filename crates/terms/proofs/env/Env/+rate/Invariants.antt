use Rattle.std.proofs.Common.{◌≡◌, ◌≤◌, Some, drop, length}
use Rattle.terms.specs.View.{args_view}
use Rattle.terms.specs.Typing.{rows}
use Rattle.terms.specs.Rating.{rated_args, plus}
use Rattle.terms.proofs.env.Env.+rate.Given as goal

abbrev pub invariant-rate_args-loop-i : goal.invariant-rate_args-loop-i
invariant-rate_args-loop-i l = record {
  long : length l.args ≡ length l.wanted;
  small : l.sum ≤ 4294967296;
  rest : rated_args l.self (rows l.ctx) (args_view l.args) l.wanted ≡ plus (Some l.sum) (rated_args l.self (rows l.ctx) (args_view (drop l.i l.args)) (drop l.i l.wanted));
}
