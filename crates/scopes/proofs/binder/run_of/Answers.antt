use Rattle.std.proofs.Common.{sym, ◌∙◌, ap, arith, if◌then◌else◌}
use Rattle.scopes.specs.Binders.{is_digits}
use Rattle.scopes.proofs.Runs.{run_step, run_stop, run_end}
use Rattle.scopes.proofs.binder.run_of.Goals as goal

pub returns-then-word-i-ne112 : goal.returns-then-word-i-ne112
returns-then-word-i-ne112 c = c.run_before.ensures ∙ (ap (λ rest. if is_digits rest then c.loop-i.i else 0) c.suffix.ensures) ∙ sym (c.loop-i.invariant ∙ run_stop c.args.word.now c.loop-i.i (omega arith) (λ e. omega (arith, e)))

pub loop-i-preserved : goal.loop-i-preserved
loop-i-preserved c = c.loop-i.invariant ∙ run_step c.args.word.now c.loop-i.i (omega arith) (omega arith)

pub returns : goal.returns
returns c = sym (c.loop-i.invariant ∙ run_end c.args.word.now c.loop-i.i (omega arith))
