use Rattle.std.proofs.Common.{◌≡◌, ◌+◌, ◌<◌, ◌≤◌, [], ◌∷◌, length, MatchOption, sym, ap, subst, ◌∙◌, arith}
use Rattle.terms.specs.Reading.{binders}
use Rattle.terms.specs.Weights.{binders_weight}
use Rattle.terms.proofs.Weighing.{binders_weight-none}
use Rattle.edges.proofs.Binders.{binders-fun, binders-plain}
use Rattle.edges.proofs.weights.with_arg.Goals as goal

pub returns-in-Fun : goal.returns-in-Fun
returns-in-Fun c =
    let count : length c.as_slice.result.now ≡ binders (c.args.arg.now ∷ []) = ap length c.as_slice.ensures ∙ sym (ap (λ a. binders (a ∷ [])) c.in-Fun.is ∙ binders-fun c.in-Fun.params c.in-Fun.field-1) in
    record { value = subst (λ n. MatchOption c.with_count.result (c.args.limit < c.args.weight + binders_weight c.args.env.now n) (λ w. (w ≡ c.args.weight + binders_weight c.args.env.now n) × (w ≤ c.args.limit))) count c.with_count.ensures.value }

pub returns-in-Plain : goal.returns-in-Plain
returns-in-Plain c =
    let none = ap (binders_weight c.args.env.now) (ap (λ a. binders (a ∷ [])) c.in-Plain.is ∙ binders-plain c.in-Plain.field-0) ∙ binders_weight-none c.args.env.now in
    record { value = (omega (arith, none), c.requires.within) }
