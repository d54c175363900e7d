use Rattle.std.proofs.Common.{◌++◌, ◌∷◌, [], List, ℕ, Option, Some, ◌≡◌, inl, sym, ap, ◌∙◌}
use Rattle.plain_listing.specs.Tables.{number_of}
use Rattle.plain_listing.proofs.Finding.{number-among, keeps-push, among-push, shallow-push}
use Rattle.plain_listing.proofs.contexts.add_params.Goals as goal

pub returns-in-Some-clause-met : goal.returns-in-Some-clause-met
returns-in-Some-clause-met c of =
    let N : List (List (List ℕ)) → Option ℕ = λ cs. number_of cs (c.args.outer.now ++ c.args.params.now ∷ []) in
    let found : number_of c.args.contexts.now (c.args.outer.now ++ c.args.params.now ∷ []) ≡ Some c.in-Some.field-0 = ap N (sym c.as_slice.ensures) ∙ sym c.number_of.ensures.value ∙ c.in-Some.is in
    inl (number-among _ _ c.in-Some.field-0 found)

pub returns-in_ok-push-in-None-clause-keeps : goal.returns-in_ok-push-in-None-clause-keeps
returns-in_ok-push-in-None-clause-keeps c = keeps-push _ _ c.in_ok-extended-in-None.field-0 c.in_ok-push-in-None.ensures.ok

pub returns-in_ok-push-in-None-clause-shallow : goal.returns-in_ok-push-in-None-clause-shallow
returns-in_ok-push-in-None-clause-shallow c depth low before = shallow-push _ _ c.in_ok-extended-in-None.field-0 c.args.outer.now c.args.params.now depth c.in_ok-push-in-None.ensures.ok c.in_ok-extended-in-None.ensures.value low before

pub returns-in_ok-push-in-None-clause-met : goal.returns-in_ok-push-in-None-clause-met
returns-in_ok-push-in-None-clause-met c of = inl (among-push _ _ c.in_ok-extended-in-None.field-0 _ c.in_ok-push-in-None.ensures.ok c.in_ok-extended-in-None.ensures.value)
