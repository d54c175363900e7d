use Rattle.std.proofs.Common.{◌≡◌, map, take}
use Rattle.terms.specs.declared.parts.Arg.TheVariants.{Plain}
use Rattle.scopes.specs.Kinds.{type_number}
use Rattle.scopes.proofs.forms.plain_args.Given as goal

abbrev pub invariant-loop-kind : goal.invariant-loop-kind
invariant-loop-kind l = l.args ≡ map (λ t. Plain (type_number l.numbers t)) (take l.kind-index l.kinds)
