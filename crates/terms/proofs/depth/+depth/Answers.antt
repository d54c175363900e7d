use Rattle.std.proofs.Common.{◌∙◌, sym, arith}
use Rattle.terms.proofs.Depths.{shallow-stop, shallow-go, shallow-end}
use Rattle.terms.proofs.depth.+depth.Goals as goal

pub are_shallow-returns-then-not-is_arg_shallow : goal.are_shallow-returns-then-not-is_arg_shallow
are_shallow-returns-then-not-is_arg_shallow t c =
    sym (c.loop-arg.invariant ∙ shallow-stop _ _ c.loop-arg.arg-index c.arg-item.result (omega arith) c.arg-item.is (sym c.is_arg_shallow.ensures ∙ c.if-not-is_arg_shallow.true))

pub are_shallow-loop-arg-preserved : goal.are_shallow-loop-arg-preserved
are_shallow-loop-arg-preserved t c =
    c.loop-arg.invariant ∙ shallow-go _ _ c.loop-arg.arg-index c.arg-item.result (omega arith) c.arg-item.is (sym c.is_arg_shallow.ensures ∙ c.if-not-is_arg_shallow.false)

pub are_shallow-returns : goal.are_shallow-returns
are_shallow-returns t c = sym (c.loop-arg.invariant ∙ shallow-end _ _ c.loop-arg.arg-index (omega arith))
