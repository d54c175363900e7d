use Rattle.std.proofs.Common.{◌≡◌, ◌∙◌, ap, sym, subst, refl, slice_get, ℕ, Some}
use Rattle.std.specs.Option.{option_copied, option_map}
use Rattle.std.proofs.lemmas.Option.{slice_get_read}
use Rattle.class_summary.specs.VariableTables.{bound_at}
use Rattle.class_summary.specs.VariableEnds.{IsEndOf}
use Rattle.class_summary.proofs.VariableEnds.{told_more}
use Rattle.class_summary.proofs.ends.tell.Goals as goal

pub returns : goal.returns
returns c =
    let ss = c.args.scopes.now in
    let first = c.index-scopes-0.result in
    let there : slice_get ss 0 ≡ Some first = slice_get_read ss _ 0 first refl c.requires.some c.index-scopes-0.is in
    let b = option_copied c.as_ref-bound.result in
    let bound : bound_at first.vars (Some c.args.place) ≡ Some b = sym c.at.ensures ∙ (ap (option_map (λ v. v.now.bound)) c.in-Some.is ∙ ap Some (sym c.as_ref-bound.ensures.value)) in
    let end : IsEndOf (Some c.in-Some-2.reached) c.class-class.result b ss = rw c.in-Some-2.is at c.in_ok-reached.ensures.right in
    let P : ℕ → Type 0 = λ k. IsEndOf (Some c.in-Some-2.reached) k b ss in
    told_more ss c.args.own.now.items c.args.place first b c.in-Some-2.reached c.requires.own there bound (subst P c.class-class.ensures end)
