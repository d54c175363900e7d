use Rattle.std.proofs.Common.{◌++◌, ap}
use Rattle.java_resolve.specs.Known.{form_words, wanted_words, decl_words}
use Rattle.java_resolve.proofs.Adding.{adds_by, adds_then, words_crowded, on_ok}
use Rattle.java_resolve.proofs.declared.add_decl.Goals as goal

pub returns-then-decl : goal.returns-then-decl
returns-then-decl c =
    let g = c.args.parts.now in
    let d = c.args.decl.now in
    let s = c.args.set.now in
    let t = c.add_form.new.set in
    let u = c.add_wanted.new.set in
    on_ok c.add_wanted.result
    (λ h. adds_by s u (form_words d.form ++ wanted_words g d.args) (decl_words g d) (words_crowded g d c.if-decl.true)
    (adds_then s t u (form_words d.form) (wanted_words g d.args) c.in_ok-add_form.ensures
    (adds_by t u (wanted_words g c.as_slice.result.now) (wanted_words g d.args) (ap (wanted_words g) c.as_slice.ensures) h)))
    c.add_wanted.ensures
