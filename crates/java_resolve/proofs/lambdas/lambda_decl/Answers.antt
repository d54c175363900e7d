use Rattle.std.proofs.Common.{◌≡◌, ◌∙◌, ap, sym, subst, ℕ, List, length}
use Rattle.std.proofs.lemmas.Bool.{false≢true}
use Rattle.terms.specs.Apart.{Declares}
use Rattle.java_shapes.specs.ShapeOf.{binder_shapes}
use Rattle.terms.specs.declared.parts.Decl.{Decl}
use Rattle.java_resolve.specs.Lambdas.{IsLambda}
use Rattle.java_resolve.proofs.LambdaRows.{lambda_not}
use Rattle.java_resolve.proofs.lambdas.lambda_decl.Goals as goal

pub returns-in-None-clause-none : goal.returns-in-None-clause-none
returns-in-None-clause-none c = λ d ps r l. c.in-None.ensures.none d ps r (subst (λ z. Declares z c.args.number d) (sym c.parts-parts.ensures.value) l.declared) l.wants

pub returns-then-not-has_binders-clause-none : goal.returns-then-not-has_binders-clause-none
returns-then-not-has_binders-clause-none c =
    let g = c.args.setting.now.env.now in
    let w = c.in-Some.wanted in
    subst (λ n. (d : Decl) (ps : List ℕ) (r : ℕ) → IsLambda g c.args.number n c.args.binders.now d ps r → ⊥) c.variables-from.ensures.value
    (lambda_not g c.args.number c.variables-from.result c.args.binders.now w.decl.now w.row.now w.result (subst (λ z. Declares z c.args.number w.decl.now) c.parts-parts.ensures.value c.in-Some.ensures.some.0) c.in-Some.ensures.some.1
    (λ e. false≢true (sym c.if-not-has_binders.true ∙ c.in_ok-has_binders-in-Some.ensures.no (subst (λ z. binder_shapes z c.variables-from.result (length w.row.now) ≡ c.args.binders.now) (sym c.parts-parts.ensures.value) e))))

pub returns-else-not-has_binders-clause-some : goal.returns-else-not-has_binders-clause-some
returns-else-not-has_binders-clause-some c =
    let g = c.args.setting.now.env.now in
    let w = c.in-Some.wanted in
    record {
      declared = subst (λ z. Declares z c.args.number w.decl.now) c.parts-parts.ensures.value c.in-Some.ensures.some.0;
      wants = c.in-Some.ensures.some.1;
      variables =
          ap (λ n. binder_shapes g n (length w.row.now)) (sym c.variables-from.ensures.value)
          ∙ subst (λ z. binder_shapes z c.variables-from.result (length w.row.now) ≡ c.args.binders.now) c.parts-parts.ensures.value (c.in_ok-has_binders-in-Some.ensures.yes c.if-not-has_binders.false);
    }
