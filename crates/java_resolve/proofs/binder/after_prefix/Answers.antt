use Rattle.java_resolve.proofs.BinderWords.{after}
use Rattle.java_resolve.proofs.binder.after_prefix.Goals as goal

pub returns : goal.returns
returns c = after c.strip_prefix.result c.args.text.now c.args.prefix.now c.utf8.text c.utf8.prefix c.strip_prefix.ensures.cases
