use Rattle.std.proofs.Common.{sym, []}
use Rattle.terms.specs.Text.{type_text}
use Rattle.java_resolve.specs.Known.{words_of}
use Rattle.java_resolve.proofs.Adding.{adds_by, type_none, on_ok}
use Rattle.java_resolve.proofs.declared.add_type.Goals as goal

pub returns-in-None : goal.returns-in-None
returns-in-None c = on_ok c.add_text-in-None.result (adds_by c.args.set.now c.add_text-in-None.new.set (words_of []) (words_of (type_text c.args.parts.now c.args.number)) (type_none c.args.parts.now c.args.number (sym c.in-None.ensures.value))) c.add_text-in-None.ensures
