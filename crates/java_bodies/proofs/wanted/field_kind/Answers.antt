use Rattle.std.proofs.Common.{rules, sym, ap, ◌∙◌, Some, bytes_eq, List, ℕ}
use Rattle.java_bodies.proofs.Loops.{field_hit, field_on, field_end}
use Rattle.java_bodies.proofs.wanted.field_kind.Goals as goal

pub returns-then-same : goal.returns-then-same
returns-then-same c = ap Some c.in_ok-kind.ensures.equal ∙ field_hit c.args.name.now c.args.fields.now c.loop-i.i c.index-fields-i.result _ (search rules) c.index-fields-i.is (sym (c.same.ensures ∙ ap (λ (w : List ℕ). bytes_eq w c.args.name.now) c.as_str.ensures) ∙ c.if-same.true) c.loop-i.invariant

pub loop-i-preserved : goal.loop-i-preserved
loop-i-preserved c = field_on c.args.name.now c.args.fields.now c.loop-i.i c.index-fields-i.result _ (search rules) c.index-fields-i.is (sym (c.same.ensures ∙ ap (λ (w : List ℕ). bytes_eq w c.args.name.now) c.as_str.ensures) ∙ c.if-same.false) c.loop-i.invariant

pub returns : goal.returns
returns c = field_end c.args.name.now c.args.fields.now c.loop-i.i _ (search rules) c.loop-i.invariant
