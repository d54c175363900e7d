use Rattle.std.proofs.Common.{◌≡◌, ◌+◌, ◌-◌, ◌==◌, true, false, rules, tests, arith, sym, ◌∙◌}
use Rattle.java_units.proofs.Walks.{past-none, closing-last, closing-right, closing-left, closing-other, closing-on, closing-hit, closing-end}
use Rattle.java_units.proofs.names.closing.Goals as goal

pub loop-i-init : goal.loop-i-init
loop-i-init c = record { depth = omega arith; rest = sym (past-none _) }

pub returns-then-depth-eq0-clause-value : goal.returns-then-depth-eq0-clause-value
returns-then-depth-eq0-clause-value c =
    let z : (c.loop-i.depth == 0) ≡ true = search (rules, tests) in
    closing-hit c.args.left.now c.args.right.now c.args.lexemes.now c.loop-i.i c.loop-i.depth _ _ (search rules) (closing-last _ _ _ _ _ (sym c.is.ensures.value ∙ c.if-is.true) z) c.loop-i.invariant.rest

pub loop-i-preserved-then-is : goal.loop-i-preserved-then-is
loop-i-preserved-then-is c =
    let z : (c.loop-i.depth == 0) ≡ false = search (rules, tests) in
    record { depth = omega arith; rest = closing-on c.args.left.now c.args.right.now c.args.lexemes.now c.loop-i.i c.loop-i.depth (c.loop-i.depth - 1) _ _ (search rules) (closing-right _ _ _ _ _ (sym c.is.ensures.value ∙ c.if-is.true) z) c.loop-i.invariant.rest }

pub loop-i-preserved-then-is-2 : goal.loop-i-preserved-then-is-2
loop-i-preserved-then-is-2 c =
    record { depth = omega arith; rest = closing-on c.args.left.now c.args.right.now c.args.lexemes.now c.loop-i.i c.loop-i.depth (c.loop-i.depth + 1) _ _ (search rules) (closing-left _ _ _ _ _ (sym c.is.ensures.value ∙ c.if-is.false) (sym c.is-in-loop-i.ensures.value ∙ c.if-is-2.true)) c.loop-i.invariant.rest }

pub loop-i-preserved : goal.loop-i-preserved
loop-i-preserved c =
    record { depth = omega arith; rest = closing-on c.args.left.now c.args.right.now c.args.lexemes.now c.loop-i.i c.loop-i.depth c.loop-i.depth _ _ (search rules) (closing-other _ _ _ _ _ (sym c.is.ensures.value ∙ c.if-is.false) (sym c.is-in-loop-i.ensures.value ∙ c.if-is-2.false)) c.loop-i.invariant.rest }

pub returns-clause-value : goal.returns-clause-value
returns-clause-value c = closing-end c.args.left.now c.args.right.now c.args.lexemes.now c.loop-i.i c.loop-i.depth _ (search rules) c.loop-i.invariant.rest
