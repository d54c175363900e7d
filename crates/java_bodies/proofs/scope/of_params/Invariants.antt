use Rattle.std.proofs.Common.{◌≡◌, take, map}
use Rattle.java_bodies.specs.Variables.{of_param}
use Rattle.java_bodies.proofs.scope.of_params.Given as goal

abbrev pub invariant-loop-param : goal.invariant-loop-param
invariant-loop-param l = l.all ≡ map of_param (take l.param-index l.params)
