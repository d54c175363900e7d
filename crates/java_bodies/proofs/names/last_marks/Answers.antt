use Rattle.std.proofs.Common.{rules, arith, subst, ap, ◌≡◌, ◌∙◌, ◌+◌, ◌-◌, length, drop, not, List, ℕ, bytes_eq, ◌||◌}
use Rattle.std.specs.BTreeSet.{contains_text}
use Rattle.java_bodies.specs.Scopes.{last_marks}
use Rattle.java_bodies.proofs.LastOnes.{IsMet, met_first, met_on}
use Rattle.java_bodies.proofs.names.last_marks.Goals as goal

pub loop-left-init : goal.loop-left-init
loop-left-init c = met_first c.args.variables.now _ _ (length c.args.variables.now) (search rules) c.new-marks.ensures.items (λ name. search rules)

pub loop-left-preserved : goal.loop-left-preserved
loop-left-preserved c =
    let e : c.loop-left.left ≡ c.loop-left.left - 1 + 1 = omega (arith, c.loop-left-test.true) in
    let h = subst (λ i. IsMet c.args.variables.now c.loop-left.marks.items (contains_text c.loop-left.met) i) e c.loop-left.invariant in
    let v = c.index-variables-left.result in
    let n = c.as_str.ensures in
    met_on c.args.variables.now c.loop-left.marks.items c.push.new.self.items (contains_text c.loop-left.met) (contains_text c.meet.new.met) (c.loop-left.left - 1) c.in_ok-fresh.fresh v
    (omega (arith, c.loop-left-test.true, c.loop-left.invariant.within)) c.index-variables-left.is
    (c.in_ok-fresh.ensures.fresh ∙ ap (λ (w : List ℕ). not (contains_text c.loop-left.met w)) n)
    (λ name. c.in_ok-fresh.ensures.met name ∙ ap (λ (w : List ℕ). bytes_eq w name || contains_text c.loop-left.met name) n)
    c.in_ok-push.ensures.items h

pub returns : goal.returns
returns c =
    let e : c.loop-left.left ≡ 0 = omega (arith, c.loop-left-test.false) in
    let m = c.loop-left.invariant.made ∙ ap (λ i. last_marks (drop i c.args.variables.now)) e in
    search rules
