use Rattle.std.proofs.Common.{◌∙◌, sym, subst, List}
use Rattle.java_units.specs.declared.types.SourceClass.{SourceClass}
use Rattle.class_summary.specs.Variables.{Scope, scopes_at}
use Rattle.class_summary.specs.VariableEnds.{AreToldOutside}
use Rattle.class_summary.proofs.Scopes.{told_outside}
use Rattle.class_summary.proofs.denoted_types.end_at.Goals as goal

pub end_of-requires-clause-outside : goal.end_of-requires-clause-outside
end_of-requires-clause-outside c =
    let cs = c.args.unit.now.classes in
    let P : List Scope → Type 0 = λ ss. AreToldOutside ss c.class_ends.result.now in
    let Q : List SourceClass → Type 0 = λ x. AreToldOutside (scopes_at x c.args.class c.args.method) c.class_ends.result.now in
    subst P (sym (c.as_slice.ensures.value ∙ c.in_ok-scopes.ensures)) (subst Q (sym c.classes.ensures) (told_outside cs c.requires c.class_ends.result.now c.class_ends.ensures c.args.class c.args.method))
