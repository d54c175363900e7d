use Rattle.std.proofs.Common.{[], ◌∷◌}
use Rattle.terms.specs.Text.{type_text}
use Rattle.java_resolve.specs.Known.{words_of, wanted_words}
use Rattle.java_resolve.proofs.Adding.{adds_by, wanted_plain, wanted_fun, on_ok}
use Rattle.java_resolve.proofs.declared.add_arg.Goals as goal

pub returns-in-Plain : goal.returns-in-Plain
returns-in-Plain c = on_ok c.add_type.result (adds_by c.args.set.now c.add_type.new.set (words_of (type_text c.args.parts.now c.in-Plain.wanted)) (wanted_words c.args.parts.now (c.args.arg.now ∷ [])) (wanted_plain c.args.parts.now c.args.arg.now c.in-Plain.wanted c.in-Plain.is)) c.add_type.ensures

pub returns-in-Fun : goal.returns-in-Fun
returns-in-Fun c = on_ok c.add_type-in-Fun.result (adds_by c.args.set.now c.add_type-in-Fun.new.set (words_of (type_text c.args.parts.now c.in-Fun.wanted)) (wanted_words c.args.parts.now (c.args.arg.now ∷ [])) (wanted_fun c.args.parts.now c.args.arg.now c.in-Fun.field-0 c.in-Fun.wanted c.in-Fun.is)) c.add_type-in-Fun.ensures
