use Rattle.std.proofs.Common.{rules, arith, subst, ap, sym, ◌≡◌, ◌∙◌, ◌+◌, ◌-◌, length, drop}
use Rattle.std.proofs.lemmas.List.{length-drop}
use Rattle.java_units.specs.Signs.{seen}
use Rattle.java_units.proofs.Walks.{seen-length}
use Rattle.java_bodies.specs.Kept.{closed_before, kept_marks}
use Rattle.java_bodies.proofs.Loops.{no_lexeme}
use Rattle.java_bodies.proofs.Walks.{IsMarked, marked_first, marked_on, unopened_few}
use Rattle.java_bodies.proofs.kept.kept_marks.Goals as goal

pub loop-left-init : goal.loop-left-init
loop-left-init c =
    let ss = seen c.args.lexemes.now in
    subst (λ xs. IsMarked c.args.brackets ss xs (length c.args.lexemes.now) 0) (sym c.new-marks.ensures.items) (marked_first c.args.brackets ss (length c.args.lexemes.now) (sym (seen-length c.args.lexemes.now)))

pub closed_before-closed-requires : goal.closed_before-closed-requires
closed_before-closed-requires c =
    let i = c.loop-left.invariant in
    omega (arith, i.closed, i.within, unopened_few c.args.brackets (drop c.loop-left.left (seen c.args.lexemes.now)), length-drop c.loop-left.left (seen c.args.lexemes.now), seen-length c.args.lexemes.now)

pub loop-left-preserved : goal.loop-left-preserved
unfolding no_lexeme
loop-left-preserved c =
    let ls = c.args.lexemes.now in
    let e : c.loop-left.left ≡ c.loop-left.left - 1 + 1 = omega (arith, c.loop-left-test.true) in
    let h = subst (λ i. IsMarked c.args.brackets (seen ls) c.loop-left.marks.items i c.loop-left.closed) e c.loop-left.invariant in
    marked_on c.args.brackets ls c.loop-left.marks.items c.push.new.self.items (c.loop-left.left - 1) c.loop-left.closed c.closed_before-closed.result no_lexeme (omega (arith, c.loop-left-test.true, c.loop-left.invariant.within, seen-length ls)) (c.closed_before-closed.ensures ∙ ap (λ m. closed_before c.args.brackets m c.loop-left.closed) c.mark_of.ensures) (search rules) h

pub returns : goal.returns
returns c =
    let ss = seen c.args.lexemes.now in
    let e : c.loop-left.left ≡ 0 = omega (arith, c.loop-left-test.false) in
    let m = c.loop-left.invariant.made ∙ ap (λ i. kept_marks c.args.brackets (drop i ss)) e in
    search rules
