use Rattle.std.proofs.Common.{◌∙◌, sym, subst}
use Rattle.terms.specs.Faults.{IsValid}
use Rattle.terms.proofs.Wanted.{wanted-is, wanted-none}
use Rattle.terms.proofs.env.Env.is_inhabitant.Goals as goal

pub returns-in-Some : goal.returns-in-Some
returns-in-Some c =
    let valid = subst IsValid c.parts-parts.ensures.value c.parts-parts.ensures.valid in
    record { value = c.is_wanted.ensures ∙ wanted-is _ _ _ c.in-Some.rating c.empty.ensures.rows valid (sym c.in-Some.is ∙ c.rate.ensures.exact) }

pub returns-in-None : goal.returns-in-None
returns-in-None c = record { value = wanted-none _ _ _ c.empty.ensures.rows (sym c.in-None.is ∙ c.rate.ensures.exact) }
