use Rattle.std.proofs.Common.{ap, sym, []}
use Rattle.java_resolve.specs.Known.{form_words}
use Rattle.java_resolve.proofs.Adding.{adds_by, adds_none}
use Rattle.java_resolve.proofs.declared.add_form.Goals as goal

pub returns-in-This : goal.returns-in-This
returns-in-This c = adds_by c.args.set.now c.args.set.now [] (form_words c.args.form.now) (sym (ap form_words c.in-This.is)) (adds_none c.args.set.now)
