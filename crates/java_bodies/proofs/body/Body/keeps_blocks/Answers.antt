use Rattle.std.proofs.Common.{ap, true, ◌∙◌, drop, slice_get, unwrap_or}
use Rattle.java_units.specs.Signs.{seen}
use Rattle.java_bodies.specs.Bodies.{BodySigns}
use Rattle.java_bodies.specs.Kept.{keeps}
use Rattle.java_bodies.specs.declared.mark.Brackets.TheVariants.{Blocks}
use Rattle.java_bodies.proofs.Walks.{mark_at}
use Rattle.java_bodies.proofs.body.Body.keeps_blocks.Goals as goal

pub returns : goal.returns
returns c =
    c.is_marked.ensures ∙ ap (λ xs. unwrap_or (slice_get xs c.args.k) true) (c.as_slice.ensures.value ∙ c.self.invariant.0)
    ∙ mark_at Blocks (seen c.self.inside.before.now) c.args.k ∙ ap (λ (b : BodySigns). keeps Blocks (drop c.args.k b.before)) c.self.view_is
