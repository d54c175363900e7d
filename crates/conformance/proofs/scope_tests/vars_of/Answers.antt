use Rattle.java_units.specs.Dimensions.{bound_dims}
use Rattle.java_units.specs.declared.types.TypeVar.{TypeVar}
use Rattle.conformance.proofs.TextClasses.{total_more}
use Rattle.conformance.proofs.scope_tests.vars_of.Goals as goal

pub loop-row-preserved : goal.loop-row-preserved
loop-row-preserved c = total_more (λ (v : TypeVar). bound_dims v.bound) c.loop-row.vars c.push.new.self c.in_ok-var.var c.in_ok-push.ensures.ok c.in_ok-var.ensures c.loop-row.invariant
