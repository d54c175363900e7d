use Rattle.std.proofs.Common.{◌≡◌, ◌∙◌, ap, sym, rules, slice_get, List, Some, None}
use Rattle.std.specs.Option.{option_copied, option_map}
use Rattle.std.specs.BTreeMap.{get_by_text}
use Rattle.java_units.specs.declared.types.TypeVar.{TypeVar}
use Rattle.class_summary.specs.Variables.{bound_of}
use Rattle.class_summary.specs.VariableTables.{bound_at}
use Rattle.class_summary.proofs.variable_names.VariableNames.named.Goals as goal

pub returns-in_default-at-clause-none : goal.returns-in_default-at-clause-none
returns-in_default-at-clause-none c =
    let vars = c.self.inside.vars.now in
    let place : get_by_text c.self.inside.places c.args.name.now ≡ Some c.in-Some.place = search rules in
    let at : slice_get vars c.in-Some.place ≡ None = sym c.at.ensures ∙ ap option_copied c.in_default-at.is in
    ap (bound_of c.args.name.now) (sym c.self.view_is) ∙ (sym (c.self.invariant c.args.name.now) ∙ (ap (bound_at vars) place ∙ ap (option_map (λ (v : TypeVar). v.bound)) at))

pub returns-clause-some : goal.returns-clause-some
returns-clause-some c =
    let vars = c.self.inside.vars.now in
    let place : get_by_text c.self.inside.places c.args.name.now ≡ Some c.in-Some.place = search rules in
    let at : slice_get vars c.in-Some.place ≡ Some c.in-Some-at.var.now = sym c.at.ensures ∙ ap option_copied c.in-Some-at.is in
    let bound : bound_at vars (Some c.in-Some.place) ≡ Some (option_copied c.as_ref.result) = ap (option_map (λ (v : TypeVar). v.bound)) at ∙ ap Some (sym c.as_ref.ensures.value) in
    (ap (bound_of c.args.name.now) (sym c.self.view_is) ∙ (sym (c.self.invariant c.args.name.now) ∙ (ap (bound_at vars) place ∙ bound)), ap (λ (v : List TypeVar). bound_at v (Some c.in-Some.place)) (sym c.self.view_is) ∙ bound)
