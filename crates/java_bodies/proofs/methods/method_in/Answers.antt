use Rattle.std.proofs.Common.{rules, ap, sym, ◌∙◌}
use Rattle.java_units.specs.Signs.{seen}
use Rattle.java_units.specs.declared.types.SourceMethod.{SourceMethod}
use Rattle.java_bodies.specs.Methods.{holds_hole}
use Rattle.java_bodies.proofs.Loops.{position_hit, position_on, position_end}
use Rattle.java_bodies.proofs.methods.method_in.Goals as goal

pub returns-then-holds : goal.returns-then-holds
unfolding holds_hole
returns-then-holds c =
    let a = c.args.split.now in
    position_hit (holds_hole a.passed a.count (seen a.lexemes.now)) c.args.methods.now c.loop-i.i c.index-methods-i.result _ (search rules) c.index-methods-i.is (ap (λ (m : SourceMethod). holds_hole a.passed a.count (seen a.lexemes.now) m) c.index-methods-i.is ∙ sym c.holds.ensures ∙ c.if-holds.true) c.loop-i.invariant

pub loop-i-preserved : goal.loop-i-preserved
unfolding holds_hole
loop-i-preserved c =
    let a = c.args.split.now in
    position_on (holds_hole a.passed a.count (seen a.lexemes.now)) c.args.methods.now c.loop-i.i c.index-methods-i.result _ (search rules) c.index-methods-i.is (ap (λ (m : SourceMethod). holds_hole a.passed a.count (seen a.lexemes.now) m) c.index-methods-i.is ∙ sym c.holds.ensures ∙ c.if-holds.false) c.loop-i.invariant

pub returns : goal.returns
returns c =
    let a = c.args.split.now in
    position_end (holds_hole a.passed a.count (seen a.lexemes.now)) c.args.methods.now c.loop-i.i _ (search rules) c.loop-i.invariant
