use Rattle.std.proofs.Common.{rules, arith, ap, sym, ◌≡◌, ◌∙◌, ◌<◌, drop, length, true, false}
use Rattle.java_units.specs.Signs.{seen}
use Rattle.java_units.specs.Forms.{begins_any}
use Rattle.java_bodies.specs.Statements.{separators}
use Rattle.java_bodies.proofs.Loops.{statement_hit, statement_on, statement_end}
use Rattle.java_bodies.proofs.statements.statement_len.Goals as goal

pub returns-then-begins_any : goal.returns-then-begins_any
returns-then-begins_any c =
    let l : c.loop-i.i < length c.args.lexemes.now = search rules in
    let e : begins_any separators (drop c.loop-i.i (seen c.args.lexemes.now)) ≡ true = sym (ap (begins_any separators) c.tail.ensures.rest) ∙ sym c.begins_any.ensures.value ∙ c.if-begins_any.true in
    statement_hit c.args.lexemes.now c.loop-i.i _ l e c.loop-i.invariant

pub loop-i-preserved : goal.loop-i-preserved
loop-i-preserved c =
    let l : c.loop-i.i < length c.args.lexemes.now = search rules in
    let e : begins_any separators (drop c.loop-i.i (seen c.args.lexemes.now)) ≡ false = sym (ap (begins_any separators) c.tail.ensures.rest) ∙ sym c.begins_any.ensures.value ∙ c.if-begins_any.false in
    statement_on c.args.lexemes.now c.loop-i.i _ l e c.loop-i.invariant

pub returns : goal.returns
returns c =
    let e : length c.args.lexemes.now ≡ c.loop-i.i = search (rules, arith) in
    e ∙ sym (statement_end c.args.lexemes.now c.loop-i.i _ (search (rules, arith)) c.loop-i.invariant)
