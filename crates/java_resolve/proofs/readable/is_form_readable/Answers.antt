use Rattle.std.proofs.Common.{◌≡◌, true}
use Rattle.std.specs.Str.{chars}
use Rattle.java_shapes.specs.Readable.{IsFormText}
use Rattle.java_resolve.specs.Readable.{is_form_text}
use Rattle.java_resolve.proofs.TextFacts.{if_map}
use Rattle.java_resolve.proofs.Readables.{form_yes, form_no}
use Rattle.java_resolve.proofs.readable.is_form_readable.Goals as goal

pub returns-clause-yes : goal.returns-clause-yes
returns-clause-yes c =
    if_map (λ r. r ≡ is_form_text (chars c.as_str.result.now) c.args.form.now) (λ r. r ≡ true → IsFormText c.args.parts.now c.args.form.now) c.is_form_text.result
    (λ r q. form_yes c.args.parts.now c.as_str.result.now c.args.form.now c.key.result.now r c.as_str.ensures c.key.ensures.value c.key.utf8 q) c.is_form_text.ensures

pub returns-clause-no : goal.returns-clause-no
returns-clause-no c =
    if_map (λ r. r ≡ is_form_text (chars c.as_str.result.now) c.args.form.now) (λ r. IsFormText c.args.parts.now c.args.form.now → r ≡ true) c.is_form_text.result
    (λ r q. form_no c.args.parts.now c.as_str.result.now c.args.form.now r c.as_str.ensures q) c.is_form_text.ensures
