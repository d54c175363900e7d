use Rattle.std.proofs.Common.{◌≡◌, ◌≤◌, ◌+◌, ◌*◌, ◌++◌, ◌∷◌, [], ◌==◌, true, drop, length}
use Rattle.terms.specs.Typing.{fits, rows}
use Rattle.terms.specs.Text.{printed, call_text}
use Rattle.terms.specs.Expr.{no_args}
use Rattle.terms.specs.View.{expr, arg, args_view}
use Rattle.terms.proofs.Sizes.{size, sizes}
use Rattle.java_print.specs.Pieces.{rest_text, argument_texts}
use Rattle.java_print.proofs.+printing.Given as goal

abbrev pub invariant-arguments::print_arguments-loop-i : goal.invariant-arguments::print_arguments-loop-i
invariant-arguments::print_arguments-loop-i l = record {
  later : l.from ≤ l.i;
  fit : fits l.parts (rows l.printer.ctx) (args_view (drop l.i l.args)) (drop l.i l.decl.args) ≡ true;
  same : (l.out ++ rest_text (l.i == l.from) (argument_texts l.parts (rows l.printer.ctx) l.decl.crowded (drop l.i l.args) (drop l.i l.decl.args))) ++ 41 ∷ [] ≡ l.fn.out ++ call_text (printed l.parts (rows l.printer.ctx) l.decl.crowded (args_view (drop l.from l.args)) (drop l.from l.decl.args));
}

abbrev pub decreases-printing::print_term : goal.decreases-printing::print_term
decreases-printing::print_term l = 8 * size (expr l.term.now)

abbrev pub decreases-printing::print_declared : goal.decreases-printing::print_declared
decreases-printing::print_declared l = 8 * sizes (args_view l.args.now) + 7

abbrev pub decreases-printing::print_method : goal.decreases-printing::print_method
decreases-printing::print_method l = 8 * sizes (args_view l.args.now) + 6

abbrev pub decreases-printing::print_field : goal.decreases-printing::print_field
decreases-printing::print_field l = 8 * sizes (args_view l.args.now) + 6

abbrev pub decreases-printing::print_lambda : goal.decreases-printing::print_lambda
decreases-printing::print_lambda l = 8 * sizes (args_view l.args.now) + 6

abbrev pub decreases-receivers::print_receiver : goal.decreases-receivers::print_receiver
decreases-receivers::print_receiver l = 8 * sizes (args_view l.args.now) + 5

abbrev pub decreases-arguments::print_arguments : goal.decreases-arguments::print_arguments
decreases-arguments::print_arguments l = 8 * sizes (args_view l.args.now) + 5

abbrev pub decreases-receivers::print_owner : goal.decreases-receivers::print_owner
decreases-receivers::print_owner l = 8 * sizes (arg l.arg.now no_args) + 4

abbrev pub decreases-arguments::print_argument : goal.decreases-arguments::print_argument
decreases-arguments::print_argument l = 8 * sizes (arg l.arg.now no_args) + 3
