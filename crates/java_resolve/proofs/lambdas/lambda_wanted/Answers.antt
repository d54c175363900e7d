use Rattle.std.proofs.Common.{◌≡◌, ◌∙◌, ap, sym, ◌∷◌, []}
use Rattle.std.proofs.lemmas.Bool.{false≢true}
use Rattle.terms.specs.declared.parts.Arg.TheVariants.{Fun}
use Rattle.java_resolve.specs.Lambdas.{WantsLambda}
use Rattle.java_resolve.proofs.TextFacts.{some_both, none_both}
use Rattle.java_resolve.proofs.LambdaRows.{only_is}
use Rattle.java_resolve.proofs.lambdas.lambda_wanted.Goals as goal

pub returns-then-not-accepts-clause-none : goal.returns-then-not-accepts-clause-none
returns-then-not-accepts-clause-none c = λ ps r w. false≢true (sym c.if-not-accepts.true ∙ c.accepts.ensures.value ∙ w.0)

pub returns-in-None-clause-none : goal.returns-in-None-clause-none
returns-in-None-clause-none c = λ ps r w. c.in-None.ensures.none (Fun ps r) (c.as_slice.ensures ∙ w.1)

pub returns-in-Some-clause-some : goal.returns-in-Some-clause-some
returns-in-Some-clause-some c =
    some_both (λ w. (w.decl.now ≡ c.args.decl.now) × (c.in-Some.wanted.now ≡ Fun w.row.now w.result)) (λ w. (w.decl.now ≡ c.args.decl.now) × WantsLambda c.args.decl.now w.row.now w.result) c.wanted_at.result
    (λ w h. (h.0, (sym c.accepts.ensures.value ∙ c.if-not-accepts.false, sym c.as_slice.ensures ∙ c.in-Some.ensures.some ∙ ap (λ z. z ∷ []) h.1)))
    c.wanted_at.ensures.some

pub returns-in-Some-clause-none : goal.returns-in-Some-clause-none
returns-in-Some-clause-none c =
    none_both c.wanted_at.result
    (λ f ps r w. f ps r (only_is c.args.decl.now.args c.in-Some.wanted.now (Fun ps r) (sym c.as_slice.ensures ∙ c.in-Some.ensures.some) w.1))
    c.wanted_at.ensures.none
