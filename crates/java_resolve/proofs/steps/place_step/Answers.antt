use Rattle.std.specs.Str.{chars}
use Rattle.java_resolve.specs.declared.place.Place.TheVariants as place
use Rattle.java_resolve.specs.View.{around}
use Rattle.java_resolve.proofs.Places.{step_at}
use Rattle.java_resolve.proofs.steps.place_step.Goals as goal

pub returns-in-Opened : goal.returns-in-Opened
returns-in-Opened c = step_at c.opened_step.result (chars c.args.binder.now) (around c.args.frames.now) (around c.opened_step.new.frames) c.args.cast place.Opened c.args.place c.args.k c.in-Opened.is (c.opened_step.ensures (chars c.args.binder.now))

pub returns-in-Sized : goal.returns-in-Sized
returns-in-Sized c = step_at c.sized_step.result (chars c.args.binder.now) (around c.args.frames.now) (around c.args.frames.now) c.args.cast (place.Sized c.in-Sized.text) c.args.place c.args.k c.in-Sized.is (c.sized_step.ensures (chars c.args.binder.now) (around c.args.frames.now))

pub returns-in-Either : goal.returns-in-Either
returns-in-Either c = step_at c.either_step.result (chars c.args.binder.now) (around c.args.frames.now) (around c.either_step.new.frames) c.args.cast (place.Either c.in-Either.text) c.args.place c.args.k c.in-Either.is (c.either_step.ensures (chars c.args.binder.now))

pub returns-in-EitherOpened : goal.returns-in-EitherOpened
returns-in-EitherOpened c = step_at c.either_opened_step.result (chars c.args.binder.now) (around c.args.frames.now) (around c.either_opened_step.new.frames) c.args.cast (place.EitherOpened c.in-EitherOpened.text) c.args.place c.args.k c.in-EitherOpened.is (c.either_opened_step.ensures (chars c.args.binder.now))

pub returns-in-CallOpened : goal.returns-in-CallOpened
returns-in-CallOpened c = step_at c.call_opened_step.result (chars c.args.binder.now) (around c.args.frames.now) (around c.call_opened_step.new.frames) c.args.cast (place.CallOpened c.in-CallOpened.before c.in-CallOpened.name) c.args.place c.args.k c.in-CallOpened.is (c.call_opened_step.ensures (chars c.args.binder.now))

pub returns-in-CallClosed : goal.returns-in-CallClosed
returns-in-CallClosed c = step_at c.call_closed_step.result (chars c.args.binder.now) (around c.args.frames.now) (around c.call_closed_step.new.frames) c.args.cast (place.CallClosed c.in-CallClosed.call) c.args.place c.args.k c.in-CallClosed.is (c.call_closed_step.ensures (chars c.args.binder.now))
