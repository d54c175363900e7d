use Rattle.std.proofs.Common.{rules, ap, ◌∙◌, ◌++◌}
use Rattle.java_units.specs.Values.{kept, param_of}
use Rattle.java_units.proofs.Lists.{flat_on, flat_end}
use Rattle.java_units.proofs.values.all_params.Goals as goal

pub loop-i-preserved : goal.loop-i-preserved
loop-i-preserved c = flat_on (λ x. kept (param_of x)) c.args.places.now c.loop-i.i _ c.loop-i.all c.keep.new.all (search rules) (c.in_ok-keep.ensures ∙ ap (λ p. c.loop-i.all ++ kept p) c.in_ok-param.ensures) c.loop-i.invariant

pub returns : goal.returns
returns c = flat_end (λ x. kept (param_of x)) c.args.places.now c.loop-i.i c.loop-i.all (search rules) c.loop-i.invariant
