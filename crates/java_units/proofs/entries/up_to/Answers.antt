use Rattle.std.proofs.Common.{◌+◌, drop, rules, arith, sym, ◌∙◌, ap}
use Rattle.java_units.specs.Signs.{seen}
use Rattle.java_units.specs.Forms.{up_to}
use Rattle.java_units.proofs.Walks.{up_to-hit, up_to-on, up_to-end}
use Rattle.java_units.proofs.entries.up_to.Goals as goal

pub returns-then-stops-clause-value : goal.returns-then-stops-clause-value
returns-then-stops-clause-value c = up_to-hit c.args.word.now c.args.lexemes.now c.loop-i.i c.loop-i.depth _ _ (search rules) (sym c.stops.ensures ∙ c.if-stops.true) c.loop-i.invariant.rest

pub loop-i-preserved : goal.loop-i-preserved
loop-i-preserved c =
    let e = up_to-on c.args.word.now c.args.lexemes.now c.loop-i.i c.loop-i.depth _ _ (search rules) (sym c.stops.ensures ∙ c.if-stops.false) c.loop-i.invariant.rest in
    record { depth = omega arith; rest = e ∙ ap (λ d. (c.loop-i.i + 1) + up_to c.args.word.now d (drop (c.loop-i.i + 1) (seen c.args.lexemes.now))) (sym c.deeper-depth.ensures.value) }

pub returns-clause-value : goal.returns-clause-value
returns-clause-value c =
    let e = up_to-end c.args.word.now c.args.lexemes.now c.loop-i.i c.loop-i.depth _ (search rules) c.loop-i.invariant.rest in
    omega (arith, e)
