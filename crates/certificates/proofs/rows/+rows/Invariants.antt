use Rattle.std.proofs.Common.{◌≡◌, ◌+◌, ◌*◌, ◌++◌, drop}
use Rattle.terms.specs.Expr.{no_args}
use Rattle.terms.specs.View.{expr, arg, args_view}
use Rattle.terms.specs.Typing.{rows}
use Rattle.terms.specs.Weights.{args_weight}
use Rattle.terms.proofs.Sizes.{size, sizes}
use Rattle.checker.specs.Rows.{args_rows}
use Rattle.certificates.specs.Readable.{AreReadable}
use Rattle.certificates.proofs.rows.+rows.Given as goal

abbrev pub invariant-push_args-loop-i : goal.invariant-push_args-loop-i
invariant-push_args-loop-i l = record {
  parts : AreReadable l.env (rows l.ctx) (args_view (drop l.i l.args)) (drop l.i l.wanted);
  weighed : l.weight + args_weight l.env (rows l.ctx) (args_view (drop l.i l.args)) (drop l.i l.wanted) ≡ args_weight l.env (rows l.ctx) (args_view l.args) l.wanted;
  told : l.list ++ args_rows l.env (rows l.ctx) (args_view (drop l.i l.args)) (drop l.i l.wanted) ≡ l.fn.list ++ args_rows l.env (rows l.ctx) (args_view l.args) l.wanted;
}

abbrev pub decreases-push_rows : goal.decreases-push_rows
decreases-push_rows l = 8 * size (expr l.term.now)

abbrev pub decreases-push_head : goal.decreases-push_head
decreases-push_head l = 8 * sizes (args_view l.args.now) + 7

abbrev pub decreases-push_args : goal.decreases-push_args
decreases-push_args l = 8 * sizes (args_view l.args.now) + 6

abbrev pub decreases-push_arg : goal.decreases-push_arg
decreases-push_arg l = 8 * sizes (arg l.arg.now no_args) + 5

abbrev pub decreases-push_plain : goal.decreases-push_plain
decreases-push_plain l = 8 * size (expr l.term.now) + 4

abbrev pub decreases-push_lambda : goal.decreases-push_lambda
decreases-push_lambda l = 8 * size (expr l.body.now) + 4
