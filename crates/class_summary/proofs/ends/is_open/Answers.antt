use Rattle.std.proofs.Common.{◌≡◌, ◌∙◌, ap, sym, refl, rules, slice_get, Some, None}
use Rattle.std.specs.Option.{option_copied, option_map}
use Rattle.std.proofs.lemmas.Option.{slice_get_read}
use Rattle.class_summary.specs.VariableTables.{bound_at}
use Rattle.class_summary.proofs.VariableEnds.{stands_not, leads_at}
use Rattle.class_summary.proofs.ends.is_open.Goals as goal

pub returns-in_default : goal.returns-in_default
returns-in_default c = λ e class bound s u.
    let ss = c.args.scopes.now in
    let first = c.index-scopes-0.result in
    let there : slice_get ss 0 ≡ Some first = slice_get_read ss _ 0 first refl c.requires.some c.index-scopes-0.is in
    let none : bound_at first.vars (Some c.args.place) ≡ None = sym c.at.ensures ∙ ap (option_map (λ v. v.now.bound)) c.in_default.is in
    absurd (stands_not ss c.args.place class bound first s there none)

pub returns-in-Some-told : goal.returns-in-Some-told
returns-in-Some-told c = λ e class bound s u.
    let told : Some c.in_ok-told.told ≡ Some None = sym c.in_ok-told.ensures ∙ u in
    let none : c.in_ok-told.told ≡ None = cc in
    absurd (let z : Some c.in-Some-told._known ≡ None = sym c.in-Some-told.is ∙ none in cc)

pub returns : goal.returns
returns c = λ e class bound s u.
    let ss = c.args.scopes.now in
    let first = c.index-scopes-0.result in
    let there : slice_get ss 0 ≡ Some first = slice_get_read ss _ 0 first refl c.requires.some c.index-scopes-0.is in
    let b = option_copied c.as_ref-bound.result in
    let at : bound_at first.vars (Some c.args.place) ≡ Some b = sym c.at.ensures ∙ (ap (option_map (λ v. v.now.bound)) c.in-Some.is ∙ ap Some (sym c.as_ref-bound.ensures.value)) in
    let none : c.in_ok-reached.reached ≡ None = search rules in
    leads_at ss c.args.own.now c.args.place class bound first b (c.in_ok-reached.ensures.«open» none) s there at
