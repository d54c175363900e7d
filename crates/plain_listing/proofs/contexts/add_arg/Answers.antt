use Rattle.std.proofs.Common.{◌∙◌, List, ℕ, sym, ap, subst}
use Rattle.terms.specs.declared.parts.Arg.{Arg}
use Rattle.terms.specs.declared.parts.Arg.TheVariants.{Fun}
use Rattle.plain_listing.specs.Contexts.{IsMet}
use Rattle.plain_listing.proofs.contexts.add_arg.Goals as goal

pub returns-in_ok-add_params-in-Fun-clause-met : goal.returns-in_ok-add_params-in-Fun-clause-met
returns-in_ok-add_params-in-Fun-clause-met c =
    let M : Arg → Type 0 = λ a. IsMet c.args.env.now c.add_params.new.contexts c.args.outer.now a in
    let of = c.in-Fun.field-1 in
    subst M (ap (λ (ps : List ℕ). Fun ps of) c.as_slice.ensures ∙ sym c.in-Fun.is) (c.in_ok-add_params-in-Fun.ensures.met of)
