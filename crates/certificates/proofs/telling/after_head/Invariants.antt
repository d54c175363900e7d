use Rattle.std.proofs.Common.{◌≡◌, ◌-◌, take}
use Rattle.terms.specs.Reading.{binders}
use Rattle.terms.specs.Weights.{binders_weight}
use Rattle.certificates.proofs.telling.after_head.Given as goal

abbrev pub invariant-loop-arg : goal.invariant-loop-arg
invariant-loop-arg l = l.rest ≡ (l.initial.most - l.initial.decl.weight) - binders_weight l.initial.env (binders (take l.arg-index l.arg-items))
