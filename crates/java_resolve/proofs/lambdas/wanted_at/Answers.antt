use Rattle.std.proofs.Common.{◌∙◌, ap, sym, refl}
use Rattle.terms.specs.declared.parts.Arg.TheVariants.{Fun}
use Rattle.java_resolve.proofs.lambdas.wanted_at.Goals as goal

pub returns-in-Plain-clause-none : goal.returns-in-Plain-clause-none
returns-in-Plain-clause-none c = λ ps r e. let q = sym c.in-Plain.is ∙ e in absurd cc

pub returns-in-Fun-clause-some : goal.returns-in-Fun-clause-some
returns-in-Fun-clause-some c = (refl, c.in-Fun.is ∙ ap (λ z. Fun z c.in-Fun.result) (sym c.as_slice.ensures))
