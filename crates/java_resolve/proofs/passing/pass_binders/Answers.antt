use Rattle.std.proofs.Common.{rules, ◌∙◌, false, true}
use Rattle.java_resolve.proofs.Pieces.{binders_on, binders_stop, binders_over}
use Rattle.java_resolve.proofs.passing.pass_binders.Goals as goal

pub loop-i-preserved : goal.loop-i-preserved
loop-i-preserved c = λ d bound k to r h.
    c.loop-i.invariant d bound k to r
    (binders_on d bound c.args.binders.now c.loop-i.i c.index-binders-i.result c.loop-i.at c.pass_binder.new.at to c.in_ok-is_known.is_known r (search rules) c.index-binders-i.is c.if-not-is_known.false
    (c.in_ok-is_known.ensures d bound k) h)

pub returns-then-not-is_known : goal.returns-then-not-is_known
returns-then-not-is_known c = λ d bound k.
    c.loop-i.invariant d bound k c.pass_binder.new.at false
    (binders_stop d bound c.args.binders.now c.loop-i.i c.index-binders-i.result c.loop-i.at c.pass_binder.new.at c.in_ok-is_known.is_known (search rules) c.index-binders-i.is c.if-not-is_known.true
    (c.in_ok-is_known.ensures d bound k))

pub returns : goal.returns
returns c = λ d bound k. c.loop-i.invariant d bound k c.loop-i.at true (binders_over d bound c.args.binders.now c.loop-i.i c.loop-i.at (search rules))
