use Rattle.std.proofs.Common.{rules, sym, ap, ◌∙◌, bytes_eq, List, ℕ}
use Rattle.java_bodies.proofs.Loops.{any_hit, any_on, any_end}
use Rattle.java_bodies.proofs.wanted.is_hidden.Goals as goal

pub returns-then-same : goal.returns-then-same
returns-then-same c = any_hit (λ h. bytes_eq h c.args.name.now) c.args.hidden.now c.loop-i.i c.index-hidden-i.result _ (search rules) c.index-hidden-i.is (sym (c.same.ensures ∙ ap (λ (w : List ℕ). bytes_eq w c.args.name.now) c.as_str.ensures) ∙ c.if-same.true) c.loop-i.invariant

pub loop-i-preserved : goal.loop-i-preserved
loop-i-preserved c = any_on (λ h. bytes_eq h c.args.name.now) c.args.hidden.now c.loop-i.i c.index-hidden-i.result _ (search rules) c.index-hidden-i.is (sym (c.same.ensures ∙ ap (λ (w : List ℕ). bytes_eq w c.args.name.now) c.as_str.ensures) ∙ c.if-same.false) c.loop-i.invariant

pub returns : goal.returns
returns c = any_end (λ h. bytes_eq h c.args.name.now) c.args.hidden.now c.loop-i.i _ (search rules) c.loop-i.invariant
