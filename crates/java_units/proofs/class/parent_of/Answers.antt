use Rattle.std.proofs.Common.{rules, sym, ap, ◌∙◌, ◌++◌, ◌∷◌, []}
use Rattle.java_units.specs.Values.{type_text}
use Rattle.java_units.proofs.Headers.{parent_hit, parent_on, parent_end}
use Rattle.java_units.proofs.class.parent_of.Goals as goal

pub returns-then-begins : goal.returns-then-begins
returns-then-begins c =
    let e = parent_hit c.args.places.now c.loop-i.i _ _ (search rules) (sym c.begins.ensures.value ∙ c.if-begins.true) c.loop-i.invariant.rest in
    let v = c.in_ok-type_text.ensures.exact ∙ ap (type_text 0) c.tail.ensures.rest in
    c.in_ok-push.ensures.ok ∙ (ap (λ r. r ++ c.in_ok-type_text.field-0 ∷ []) c.loop-i.invariant.none ∙ (ap (λ y. y ∷ []) v ∙ e))

pub loop-i-preserved : goal.loop-i-preserved
loop-i-preserved c = record { none = c.loop-i.invariant.none; rest = parent_on c.args.places.now c.loop-i.i _ _ (search rules) (sym c.begins.ensures.value ∙ c.if-begins.false) c.loop-i.invariant.rest }

pub returns : goal.returns
returns c = c.loop-i.invariant.none ∙ parent_end c.args.places.now c.loop-i.i _ (search rules) c.loop-i.invariant.rest
