use Rattle.std.proofs.Common.{◌≡◌, ◌∙◌, ◌||◌, ap, sym, true}
use Rattle.std.specs.Str.{chars}
use Rattle.java_units.specs.Signs.{has}
use Rattle.java_units.specs.Forms.{primitives}
use Rattle.java_shapes.specs.Readable.{IsTypeText}
use Rattle.terms.specs.Text.{type_text}
use Rattle.java_resolve.specs.Readable.{is_free_path}
use Rattle.java_resolve.proofs.TextFacts.{if_map}
use Rattle.java_resolve.proofs.Readables.{type_yes, type_no_dims, type_no_base}
use Rattle.java_resolve.proofs.readable.is_type_text.Goals as goal

pub returns-then-not-are_dimensions-clause-no : goal.returns-then-not-are_dimensions-clause-no
returns-then-not-are_dimensions-clause-no c =
    type_no_dims c.args.parts.now (type_text c.args.parts.now c.args.number) c.type_text.result.now c.in_ok-base.base (chars c.in_ok-base.rest.now) c.type_text.ensures c.in_ok-base.ensures (sym c.are_dimensions.ensures ∙ c.if-not-are_dimensions.true)

pub returns-clause-yes : goal.returns-clause-yes
returns-clause-yes c =
    if_map (λ r. r ≡ (has primitives c.in_ok-base.base || is_free_path (chars c.as_str.result.now) c.in_ok-base.base)) (λ r. r ≡ true → IsTypeText c.args.parts.now (type_text c.args.parts.now c.args.number)) c.is_base.result
    (λ r q. type_yes c.args.parts.now (type_text c.args.parts.now c.args.number) c.type_text.result.now c.in_ok-base.base (chars c.in_ok-base.rest.now) r c.type_text.ensures c.type_text.utf8 c.in_ok-base.ensures (sym c.are_dimensions.ensures ∙ c.if-not-are_dimensions.false)
    (q ∙ ap (λ x. has primitives c.in_ok-base.base || is_free_path (chars x) c.in_ok-base.base) c.as_str.ensures))
    c.is_base.ensures

pub returns-clause-no : goal.returns-clause-no
returns-clause-no c =
    if_map (λ r. r ≡ (has primitives c.in_ok-base.base || is_free_path (chars c.as_str.result.now) c.in_ok-base.base)) (λ r. IsTypeText c.args.parts.now (type_text c.args.parts.now c.args.number) → r ≡ true) c.is_base.result
    (λ r q. type_no_base c.args.parts.now (type_text c.args.parts.now c.args.number) c.type_text.result.now c.in_ok-base.base (chars c.in_ok-base.rest.now) r c.type_text.ensures c.in_ok-base.ensures
    (q ∙ ap (λ x. has primitives c.in_ok-base.base || is_free_path (chars x) c.in_ok-base.base) c.as_str.ensures))
    c.is_base.ensures
