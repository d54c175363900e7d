use Rattle.std.proofs.Common.{rules, sym, ap, ◌≡◌, ◌∙◌, Some, None}
use Rattle.std.specs.List.{position_from}
use Rattle.java_units.specs.Signs.{seen}
use Rattle.java_units.specs.declared.types.SourceClass.{SourceClass}
use Rattle.java_bodies.specs.Methods.{holds_hole, method_at}
use Rattle.java_bodies.proofs.Loops.{method_hit, method_on, method_end}
use Rattle.java_bodies.proofs.methods.method_at.Goals as goal

pub returns-in-Some : goal.returns-in-Some
unfolding method_at
returns-in-Some c =
    let a = c.args.split.now in
    let p = holds_hole a.passed a.count (seen a.lexemes.now) in
    let e : position_from p 0 c.index-classes-class.result.methods ≡ Some c.in-Some.method =
    ap (λ (x : SourceClass). position_from p 0 x.methods) c.index-classes-class.is ∙ sym (ap (position_from p 0) c.as_slice.ensures) ∙ sym c.method_in.ensures ∙ c.in-Some.is in
    method_hit p c.args.classes.now c.loop-class.class c.in-Some.method c.index-classes-class.result _ (search rules) c.index-classes-class.is e c.loop-class.invariant

pub loop-class-preserved : goal.loop-class-preserved
loop-class-preserved c =
    let a = c.args.split.now in
    let p = holds_hole a.passed a.count (seen a.lexemes.now) in
    let e : position_from p 0 c.index-classes-class.result.methods ≡ None =
    ap (λ (x : SourceClass). position_from p 0 x.methods) c.index-classes-class.is ∙ sym (ap (position_from p 0) c.as_slice.ensures) ∙ sym c.method_in.ensures ∙ c.in_default.is in
    method_on p c.args.classes.now c.loop-class.class c.index-classes-class.result _ (search rules) c.index-classes-class.is e c.loop-class.invariant

pub returns : goal.returns
unfolding method_at
returns c =
    let a = c.args.split.now in
    method_end (holds_hole a.passed a.count (seen a.lexemes.now)) c.args.classes.now c.loop-class.class _ (search rules) c.loop-class.invariant
