use Rattle.std.proofs.Common.{◌≡◌, ◌∙◌, ap, sym, rules, slice_get, Some}
use Rattle.std.specs.Option.{option_copied}
use Rattle.std.specs.BTreeMap.{get_by_text}
use Rattle.class_summary.specs.Names.{imported}
use Rattle.class_summary.specs.ImportTables.{import_at}
use Rattle.class_summary.specs.UnitTables.{SourceUnit}
use Rattle.class_summary.proofs.unit_names.UnitNames.imported.Goals as goal

pub returns : goal.returns
returns c =
    let u = c.self.inside.unit.now in
    let place : get_by_text c.self.inside.single c.args.name.now ≡ Some c.in-Some.place = search rules in
    let slice : c.as_slice.result.now ≡ u.imports = search rules in
    let at : option_copied c.at.result ≡ slice_get u.imports c.in-Some.place = c.at.ensures ∙ ap (λ q. slice_get q c.in-Some.place) slice in
    at ∙ (ap (import_at u.imports) (sym place) ∙ (c.self.invariant.7 c.args.name.now ∙ ap (λ (s : SourceUnit). imported c.args.name.now s.imports) c.self.view_is))
