use Rattle.std.proofs.Common.{ap, sym}
use Rattle.std.specs.Str.{chars}
use Rattle.java_shapes.specs.Reader.{step, either_word}
use Rattle.java_resolve.proofs.Closings.{along}
use Rattle.java_resolve.proofs.openings.either_word_step.Goals as goal

pub returns-in-46 : goal.returns-in-46
returns-in-46 c = λ a. along c.either_dot.result a _ _ (ap (step (chars c.args.binder.now) (either_word a c.args.text c.args.word)) (sym c.in-46.is)) (c.either_dot.ensures (chars c.args.binder.now) a)
