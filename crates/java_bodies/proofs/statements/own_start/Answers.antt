use Rattle.std.proofs.Common.{arith, ap, sym, ◌≡◌, ◌∙◌, ◌-◌, drop, length, true, false}
use Rattle.java_units.specs.Signs.{seen}
use Rattle.java_units.specs.Forms.{begins_any}
use Rattle.java_units.proofs.Walks.{seen-length}
use Rattle.java_bodies.specs.Statements.{separators}
use Rattle.java_bodies.proofs.Loops.{plain_first, plain_on, plain_end}
use Rattle.java_bodies.proofs.statements.own_start.Goals as goal

pub loop-left-init : goal.loop-left-init
loop-left-init c = plain_first (seen c.args.lexemes.now) (length c.args.lexemes.now) (sym (seen-length c.args.lexemes.now))

pub returns-then-begins_any : goal.returns-then-begins_any
returns-then-begins_any c =
    let e : begins_any separators (drop (c.loop-left.left - 1) (seen c.args.lexemes.now)) ≡ true = sym (ap (begins_any separators) c.tail.ensures.rest) ∙ sym c.begins_any.ensures.value ∙ c.if-begins_any.true in
    plain_end (seen c.args.lexemes.now) c.loop-left.left c.loop-left.invariant (λ z. e)

pub loop-left-preserved : goal.loop-left-preserved
loop-left-preserved c =
    let e : begins_any separators (drop (c.loop-left.left - 1) (seen c.args.lexemes.now)) ≡ false = sym (ap (begins_any separators) c.tail.ensures.rest) ∙ sym c.begins_any.ensures.value ∙ c.if-begins_any.false in
    plain_on (seen c.args.lexemes.now) c.loop-left.left (omega (arith, c.loop-left-test.true)) e c.loop-left.invariant

pub returns : goal.returns
returns c =
    let z : c.loop-left.left ≡ 0 = omega (arith, c.loop-left-test.false) in
    let e = plain_end (seen c.args.lexemes.now) c.loop-left.left c.loop-left.invariant (λ p. absurd (omega (arith, z, p))) in
    sym (ap (λ n. drop n (seen c.args.lexemes.now)) z) ∙ e
