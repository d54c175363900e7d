use Rattle.std.specs.Str.{chars}
use Rattle.java_resolve.proofs.BinderWords.{binder_after, binder_never}
use Rattle.java_resolve.proofs.binder.is_binder.Goals as goal

pub returns-in-Some : goal.returns-in-Some
returns-in-Some c = binder_after (chars c.args.binder.now) (chars c.args.word.now) (chars c.in-Some.digits.now) c.are_digits.result c.in-Some.ensures c.are_digits.ensures

pub returns-in-None : goal.returns-in-None
returns-in-None c = binder_never (chars c.args.binder.now) (chars c.args.word.now) c.in-None.ensures
