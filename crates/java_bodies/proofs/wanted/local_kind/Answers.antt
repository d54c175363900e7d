use Rattle.std.proofs.Common.{rules, sym, ap, ◌≡◌, ◌∙◌, subst, Option, IfOk, Some, bytes_eq, List, ℕ}
use Rattle.java_units.specs.declared.types.TypeText.{TypeText}
use Rattle.java_bodies.proofs.Loops.{local_hit, local_on, local_end}
use Rattle.java_bodies.proofs.wanted.local_kind.Goals as goal

pub returns-then-same : goal.returns-then-same
returns-then-same c = ap Some c.in_ok-kind.ensures.equal ∙ local_hit c.args.name.now c.args.locals.now c.args.fields.now c.loop-i.i c.index-locals-i.result _ (search rules) c.index-locals-i.is (sym (c.same.ensures ∙ ap (λ (w : List ℕ). bytes_eq w c.args.name.now) c.as_str.ensures) ∙ c.if-same.true) c.loop-i.invariant

pub loop-i-preserved : goal.loop-i-preserved
loop-i-preserved c = local_on c.args.name.now c.args.locals.now c.args.fields.now c.loop-i.i c.index-locals-i.result _ (search rules) c.index-locals-i.is (sym (c.same.ensures ∙ ap (λ (w : List ℕ). bytes_eq w c.args.name.now) c.as_str.ensures) ∙ c.if-same.false) c.loop-i.invariant

pub returns : goal.returns
returns c =
    let e = local_end c.args.name.now c.args.locals.now c.args.fields.now c.loop-i.i _ (search rules) c.loop-i.invariant in
    subst (λ (o : Option TypeText). IfOk c.field_kind.result (λ kind. kind ≡ o)) (sym e) c.field_kind.ensures
