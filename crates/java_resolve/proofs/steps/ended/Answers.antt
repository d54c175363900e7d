use Rattle.java_resolve.specs.View.{around, place_part}
use Rattle.java_resolve.proofs.Places.{due_never}
use Rattle.java_resolve.proofs.steps.ended.Goals as goal

pub returns-in-len1-up : goal.returns-in-len1-up
returns-in-len1-up c = due_never c.args.spot.due.now (place_part (around c.args.frames.now) c.args.spot.cast c.args.spot.place) c.in-len1-up.len_at_least
