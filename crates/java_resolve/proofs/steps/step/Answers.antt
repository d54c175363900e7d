use Rattle.std.proofs.Common.{◌∙◌, ap}
use Rattle.std.specs.Str.{chars}
use Rattle.java_shapes.specs.Reader.{step}
use Rattle.java_resolve.specs.View.{around, place_part}
use Rattle.java_resolve.proofs.Places.{due_first}
use Rattle.java_resolve.proofs.steps.step.Goals as goal

pub returns-in-len1-up : goal.returns-in-len1-up
returns-in-len1-up c =
    c.due_step.ensures (chars c.args.binder.now) (around c.args.frames.now)
    ∙ ap (λ q. step (chars c.args.binder.now) q c.args.k) (due_first c.args.spot.due.now c.first-item.result (place_part (around c.args.frames.now) c.args.spot.cast c.args.spot.place) c.in-len1-up.len_at_least c.first-item.is)
