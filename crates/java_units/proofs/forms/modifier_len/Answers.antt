use Rattle.std.proofs.Common.{◌≡◌, ◌∙◌, sym, true, false, refl}
use Rattle.java_units.specs.Signs.{seen}
use Rattle.java_units.specs.Forms.{begins_any, modifiers, modifier_len}
use Rattle.java_units.proofs.forms.modifier_len.Goals as goal

pub returns-then-begins_modifier-clause-value : goal.returns-then-begins_modifier-clause-value
unfolding modifier_len
returns-then-begins_modifier-clause-value c =
    let e : begins_any modifiers (seen c.args.lexemes.now) ≡ true = sym c.begins_modifier.ensures.value ∙ c.if-begins_modifier.true in
    rw (e) refl

pub returns-clause-value : goal.returns-clause-value
unfolding modifier_len
returns-clause-value c =
    let e : begins_any modifiers (seen c.args.lexemes.now) ≡ false = sym c.begins_modifier.ensures.value ∙ c.if-begins_modifier.false in
    rw (e) c.non_sealed_len.ensures.value
