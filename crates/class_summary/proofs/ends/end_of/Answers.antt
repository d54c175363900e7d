use Rattle.std.proofs.Common.{◌≡◌, ◌∙◌, ap, sym, subst, ℕ, List, Option, Some, None}
use Rattle.std.specs.Option.{option_copied}
use Rattle.class_summary.specs.Variables.{variable_of, end_at, end_of}
use Rattle.class_summary.specs.VariableEnds.{Reach, AreTold, AreEnds, NextIs}
use Rattle.class_summary.proofs.Bounds.{ended_with}
use Rattle.class_summary.proofs.VariableEnds.{ends_told, end_name, end_reached, end_never, end_late}
use Rattle.class_summary.proofs.ends.end_of.Goals as goal

pub next_of-requires-clause-own : goal.next_of-requires-clause-own
next_of-requires-clause-own c =
    let P : List (Option Reach) → Type 0 = λ own. AreTold c.args.scopes.now own in
    subst P (sym (c.as_slice.ensures.value ∙ c.own.view_is)) (ends_told c.args.scopes.now c.args.own.now c.requires.own)

pub returns-in_default-2 : goal.returns-in_default-2
returns-in_default-2 c =
    let ss = c.args.scopes.now in
    let v : variable_of c.as_slice-parts.result.now ss ≡ None = rw c.in_default-2.is at c.in_ok-told.ensures in
    let w : variable_of c.args.kind.now.parts ss ≡ None = ap (λ (p : List (List ℕ)). variable_of p ss) (sym c.as_slice-parts.ensures) ∙ v in
    ended_with c.ended.result (Some c.args.kind.now.dims) c.args.class (Some c.as_slice-parts.result.now) (end_of ss c.args.class c.args.kind.now) c.ended.ensures
    (λ d e. ap (λ (p : List (List ℕ)). end_at d c.args.class (Some p)) c.as_slice-parts.ensures ∙ end_name ss c.args.class d c.args.kind.now w e)

pub returns-in_default-told : goal.returns-in_default-told
returns-in_default-told c =
    let ss = c.args.scopes.now in
    let own = c.as_slice.result.now in
    let E : List (Option Reach) → Type 0 = λ own. AreEnds ss own in
    let all : AreEnds ss own = subst E (sym (c.as_slice.ensures.value ∙ c.own.view_is)) c.requires.own in
    let n : NextIs ss own c.as_slice-parts.result.now c.in-Some-2.told = rw c.in-Some-2.is at c.in_ok-told.ensures in
    let P : List (List ℕ) → Type 0 = λ p. NextIs ss own p c.in-Some-2.told in
    let Q : Option Reach → Type 0 = λ t. NextIs ss own c.args.kind.now.parts t in
    let m : NextIs ss own c.args.kind.now.parts None = subst Q c.in_default-told.is (subst P c.as_slice-parts.ensures n) in
    ended_with c.ended-in_default-told.result (Some c.args.kind.now.dims) c.args.class None (end_of ss c.args.class c.args.kind.now) c.ended-in_default-told.ensures
    (λ d e. end_never ss own c.args.class d c.args.kind.now all m e)

pub returns-then-way-steps : goal.returns-then-way-steps
returns-then-way-steps c =
    let ss = c.args.scopes.now in
    let own = c.as_slice.result.now in
    let w : Reach = record { bounds = c.way.inside.bounds; dims = c.way.inside.dims; class = c.way.inside.class; parts = option_copied c.way.inside.parts } in
    let n : NextIs ss own c.as_slice-parts.result.now c.in-Some-2.told = rw c.in-Some-2.is at c.in_ok-told.ensures in
    let P : List (List ℕ) → Type 0 = λ p. NextIs ss own p c.in-Some-2.told in
    let Q : Option Reach → Type 0 = λ t. NextIs ss own c.args.kind.now.parts t in
    let m : NextIs ss own c.args.kind.now.parts (Some w) = subst Q (c.in-Some-told.is ∙ ap Some (sym c.way.view_is)) (subst P c.as_slice-parts.ensures n) in
    ended_with c.ended-then-way-steps.result (Some c.args.kind.now.dims) c.args.class None (end_of ss c.args.class c.args.kind.now) c.ended-then-way-steps.ensures
    (λ d e. end_late ss own c.args.class d c.in-Some.steps c.args.kind.now w m c.in-Some.ensures c.if-way-steps.true e)

pub returns : goal.returns
returns c =
    let ss = c.args.scopes.now in
    let own = c.as_slice.result.now in
    let w : Reach = record { bounds = c.way.inside.bounds; dims = c.way.inside.dims; class = c.way.inside.class; parts = option_copied c.way.inside.parts } in
    let n : NextIs ss own c.as_slice-parts.result.now c.in-Some-2.told = rw c.in-Some-2.is at c.in_ok-told.ensures in
    let P : List (List ℕ) → Type 0 = λ p. NextIs ss own p c.in-Some-2.told in
    let Q : Option Reach → Type 0 = λ t. NextIs ss own c.args.kind.now.parts t in
    let m : NextIs ss own c.args.kind.now.parts (Some w) = subst Q (c.in-Some-told.is ∙ ap Some (sym c.way.view_is)) (subst P c.as_slice-parts.ensures n) in
    ended_with c.ended-2.result c.more_dims.result c.way.inside.class (option_copied c.way.inside.parts) (end_of ss c.args.class c.args.kind.now) c.ended-2.ensures
    (λ d e. end_reached ss own c.args.class d c.in-Some.steps c.args.kind.now w c.more_dims.result m c.in-Some.ensures c.if-way-steps.false c.more_dims.ensures e)
