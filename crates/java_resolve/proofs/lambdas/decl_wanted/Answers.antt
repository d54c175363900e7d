use Rattle.std.proofs.Common.{◌≡◌, ◌∙◌, ap, sym, subst, Some}
use Rattle.terms.specs.Apart.{Declares}
use Rattle.java_resolve.specs.Lambdas.{WantsLambda}
use Rattle.java_resolve.proofs.Heading.{same_decl}
use Rattle.java_resolve.proofs.TextFacts.{some_both, none_both}
use Rattle.java_resolve.proofs.lambdas.decl_wanted.Goals as goal

pub returns-in-None-clause-none : goal.returns-in-None-clause-none
returns-in-None-clause-none c = λ d ps r at w. let q = c.in-None.ensures.value ∙ at in absurd cc

pub returns-in-Some-clause-some : goal.returns-in-Some-clause-some
returns-in-Some-clause-some c =
    some_both (λ w. (w.decl.now ≡ c.in-Some.decl.now) × WantsLambda c.in-Some.decl.now w.row.now w.result) (λ w. Declares c.args.parts.now c.args.number w.decl.now × WantsLambda w.decl.now w.row.now w.result) c.lambda_wanted.result
    (λ w h. (sym c.in-Some.ensures.value ∙ ap Some (sym h.0), subst (λ z. WantsLambda z w.row.now w.result) (sym h.0) h.1))
    c.lambda_wanted.ensures.some

pub returns-in-Some-clause-none : goal.returns-in-Some-clause-none
returns-in-Some-clause-none c =
    none_both c.lambda_wanted.result
    (λ f d ps r at w. f ps r (subst (λ z. WantsLambda z ps r) (same_decl c.args.parts.now c.args.number d c.in-Some.decl.now at (sym c.in-Some.ensures.value)) w))
    c.lambda_wanted.ensures.none
