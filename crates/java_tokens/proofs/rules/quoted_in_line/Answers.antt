use Rattle.std.proofs.Common.{arith, sym, ◌∙◌, rules, tests}
use Rattle.java_tokens.proofs.Runs.{quoted_in_line-plain}
use Rattle.java_tokens.proofs.rules.quoted_in_line.Goals as goal

pub loop-i-preserved : goal.loop-i-preserved
loop-i-preserved c =
    let m = c.args.mark in
    let cs = c.args.cs.now in
    let e = quoted_in_line-plain m cs c.loop-i.i c.index-cs-i.result (search (rules, tests)) c.index-cs-i.is (sym c.is_newline.ensures ∙ c.if-is_newline.false) (search (rules, tests)) (search (rules, tests)) in
    let start = rw (c.if-taken.false) at c.loop-i.invariant in
    rw (c.if-taken.false) (omega (arith, start, e))
