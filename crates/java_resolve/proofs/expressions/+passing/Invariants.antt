use Rattle.std.proofs.Common.{◌≡◌, ℕ, ◌+◌, ◌*◌, ◌==◌, List, [], ◌∷◌, Bool, true, drop}
use Rattle.java_resolve.specs.Pieces.{args_pieces}
use Rattle.java_resolve.specs.View.{shape_view, before_view, args_view}
use Rattle.java_resolve.specs.declared.passing.Passing.{Passing}
use Rattle.java_resolve.specs.Known.{Goes, Knows}
use Rattle.java_resolve.proofs.Sizes.{size, size_before, sizes}
use Rattle.java_resolve.proofs.expressions.+passing.Given as goal

abbrev pub invariant-pass_args-loop-i : goal.invariant-pass_args-loop-i
invariant-pass_args-loop-i l = record {
  goes : (d : List ℕ → Bool) (bound : List (List ℕ)) → Knows l.fn.passing.set d bound → (end : Passing) (r : Bool) → Goes d (args_pieces bound (l.i == 0) (args_view (drop l.i l.args))) l.passing end r → Goes d (args_pieces bound true (args_view l.args)) l.fn.passing end r;
  knows : (d : List ℕ → Bool) (bound : List (List ℕ)) → Knows l.fn.passing.set d bound → Knows l.passing.set d bound;
}

abbrev pub decreases-pass_shape : goal.decreases-pass_shape
decreases-pass_shape l = 8 * size (shape_view l.shape.now)

abbrev pub decreases-pass_named : goal.decreases-pass_named
decreases-pass_named l = 8 * size_before (before_view l.before.now) + 2

abbrev pub decreases-pass_called : goal.decreases-pass_called
decreases-pass_called l = 8 * (size_before (before_view l.before.now) + sizes (args_view l.args.now)) + 6

abbrev pub decreases-pass_before : goal.decreases-pass_before
decreases-pass_before l = 8 * size_before (before_view l.before.now) + 1

abbrev pub decreases-pass_bracketed : goal.decreases-pass_bracketed
decreases-pass_bracketed l = 8 * size (shape_view l.receiver.now) + 2

abbrev pub decreases-pass_with_cast : goal.decreases-pass_with_cast
decreases-pass_with_cast l = 8 * size (shape_view l.shape.now) + 1

abbrev pub decreases-pass_args : goal.decreases-pass_args
decreases-pass_args l = 8 * sizes (args_view l.args.now) + 3

abbrev pub decreases-pass_arg : goal.decreases-pass_arg
decreases-pass_arg l = 8 * sizes (args_view (l.arg.now ∷ [])) + 2

abbrev pub decreases-pass_lambda : goal.decreases-pass_lambda
decreases-pass_lambda l = 8 * size (shape_view l.body.now) + 4

abbrev pub decreases-pass_within : goal.decreases-pass_within
decreases-pass_within l = 8 * size (shape_view l.body.now) + 3

abbrev pub decreases-pass_call : goal.decreases-pass_call
decreases-pass_call l = 8 * sizes (args_view l.args.now) + 4

abbrev pub decreases-pass_behind : goal.decreases-pass_behind
decreases-pass_behind l = 8 * (size_before (before_view l.before.now) + sizes (args_view l.args.now)) + 7
