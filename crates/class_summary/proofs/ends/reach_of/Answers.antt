use Rattle.std.proofs.Common.{◌≡◌, ◌∙◌, ap, sym, subst, refl, ℕ, List, Option, Some, None}
use Rattle.std.specs.Option.{option_copied}
use Rattle.java_units.specs.declared.types.TypeText.{TypeText}
use Rattle.class_summary.specs.Variables.{variable_of}
use Rattle.class_summary.specs.VariableEnds.{Reach, IsEndOf, LeadsOn, NextIs}
use Rattle.class_summary.proofs.VariableEnds.{ends_object, ends_name, ends_further, leads_on}
use Rattle.class_summary.proofs.ends.reach_of.Goals as goal

pub returns-in_default-clause-right : goal.returns-in_default-clause-right
returns-in_default-clause-right c =
    let P : Option TypeText → Type 0 = λ b. IsEndOf (Some (record { bounds = 0; dims = Some 0; class = c.args.class; parts = None })) c.args.class b c.args.scopes.now in
    subst P (sym (ap option_copied c.in_default.is)) (ends_object c.args.class c.args.scopes.now _ refl refl refl refl)

pub returns-in_default-2-clause-right : goal.returns-in_default-2-clause-right
returns-in_default-2-clause-right c =
    let ss = c.args.scopes.now in
    let b = c.in-Some.bound.now in
    let v : variable_of c.as_slice-parts.result.now ss ≡ None = rw c.in_default-2.is at c.in_ok-told.ensures in
    let w : variable_of b.parts ss ≡ None = ap (λ (p : List (List ℕ)). variable_of p ss) (sym c.as_slice-parts.ensures) ∙ v in
    let P : Option TypeText → Type 0 = λ b. IsEndOf (Some (record { bounds = 1; dims = Some c.in-Some.bound.now.dims; class = c.args.class; parts = Some c.as_slice-parts.result.now })) c.args.class b ss in
    subst P (sym (ap option_copied c.in-Some.is)) (ends_name c.args.class b ss _ w refl refl refl (ap Some c.as_slice-parts.ensures))

pub returns-in_default-told-clause-open : goal.returns-in_default-told-clause-open
returns-in_default-told-clause-open c = λ e.
    let ss = c.args.scopes.now in
    let own = c.args.own.now in
    let b = c.in-Some.bound.now in
    let n : NextIs ss own c.as_slice-parts.result.now c.in-Some-2.told = rw c.in-Some-2.is at c.in_ok-told.ensures in
    let P : List (List ℕ) → Type 0 = λ p. NextIs ss own p c.in-Some-2.told in
    let Q : Option Reach → Type 0 = λ t. NextIs ss own b.parts t in
    let m : NextIs ss own b.parts None = subst Q c.in_default-told.is (subst P c.as_slice-parts.ensures n) in
    let L : Option TypeText → Type 0 = λ b. LeadsOn ss own b in
    subst L (sym (ap option_copied c.in-Some.is)) (leads_on ss own b m)

pub returns-clause-right : goal.returns-clause-right
returns-clause-right c =
    let ss = c.args.scopes.now in
    let own = c.args.own.now in
    let b = c.in-Some.bound.now in
    let n : NextIs ss own c.as_slice-parts.result.now c.in-Some-2.told = rw c.in-Some-2.is at c.in_ok-told.ensures in
    let P : List (List ℕ) → Type 0 = λ p. NextIs ss own p c.in-Some-2.told in
    let Q : Option Reach → Type 0 = λ t. NextIs ss own b.parts t in
    let m : NextIs ss own b.parts (Some c.in-Some-told.next) = subst Q c.in-Some-told.is (subst P c.as_slice-parts.ensures n) in
    let R : Option TypeText → Type 0 = λ b. IsEndOf (Some c.in_ok-reached.reached) c.args.class b ss in
    subst R (sym (ap option_copied c.in-Some.is)) (ends_further c.args.class b ss own c.in-Some-told.next c.in_ok-reached.reached m c.in_ok-reached.ensures)
