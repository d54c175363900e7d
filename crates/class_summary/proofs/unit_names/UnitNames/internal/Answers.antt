use Rattle.std.proofs.Common.{◌≡◌, ◌∙◌, ap, sym, length, slice_get, Some}
use Rattle.std.specs.Option.{option_copied}
use Rattle.class_summary.specs.Sources.{internal_name}
use Rattle.class_summary.specs.UnitTables.{SourceUnit}
use Rattle.class_summary.proofs.UnitTables.{numbered_at, same_copy}
use Rattle.class_summary.proofs.unit_names.UnitNames.internal.Goals as goal

pub returns-in-Some : goal.returns-in-Some
returns-in-Some c =
    let u = c.self.inside.unit.now in
    let g : slice_get c.self.inside.internal c.args.class ≡ Some c.in-Some.name.now = sym c.get.ensures.value ∙ ap option_copied c.in-Some.is in
    let n : c.in-Some.name.now ≡ internal_name u c.args.class = numbered_at (internal_name u) (length u.classes) c.args.class c.in-Some.name.now c.self.inside.internal c.self.invariant.0 g in
    same_copy c.copy.result c.in-Some.name.now (internal_name c.args.self.now c.args.class) c.copy.ensures.equal (n ∙ ap (λ (s : SourceUnit). internal_name s c.args.class) c.self.view_is)
