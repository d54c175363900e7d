use Rattle.std.proofs.Common.{rules, ◌∙◌, sym}
use Rattle.java_resolve.proofs.Readables.{wants_more, wants_at}
use Rattle.java_resolve.proofs.readable.are_arg_texts.Goals as goal

pub returns-then-not-branch-clause-no : goal.returns-then-not-branch-clause-no
returns-then-not-branch-clause-no c = λ h. sym c.if-not-branch.true ∙ c.in_ok-is_arg_text.ensures.no (λ b w. h b (wants_at c.args.args.now c.loop-arg.arg-index c.arg-item.result (search rules) c.arg-item.is b w))

pub loop-arg-preserved : goal.loop-arg-preserved
loop-arg-preserved c = wants_more c.args.parts.now c.args.args.now c.loop-arg.arg-index c.arg-item.result (search rules) c.arg-item.is c.loop-arg.invariant (c.in_ok-is_arg_text.ensures.yes c.if-not-branch.false)
