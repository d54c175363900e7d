use Rattle.std.proofs.Common.{◌++◌, ap, ◌∙◌}
use Rattle.weight_bounds.specs.Relaxed.{parameters_of}
use Rattle.weight_bounds.proofs.Members.{brought-none, brought-more}
use Rattle.weight_bounds.proofs.parameters.add_parameters.Goals as goal

pub loop-arg-init : goal.loop-arg-init
loop-arg-init c = brought-none parameters_of c.args.args.now c.args.types.now.items

pub loop-arg-preserved : goal.loop-arg-preserved
loop-arg-preserved c = brought-more parameters_of c.args.args.now c.loop-arg.arg-index c.arg-item.result _ c.args.types.now.items c.loop-arg.types.items _ c.loop-arg-test.true c.arg-item.is (c.in_ok-extend_from_slice.ensures.items ∙ ap (λ l. c.loop-arg.types.items ++ l) c.parameters_of.ensures.value) c.loop-arg.invariant
