use Rattle.std.proofs.Common.{◌≡◌, ◌∙◌, ap, sym, rules, ℕ, Option, map, slice_get, Some}
use Rattle.std.specs.Option.{option_map}
use Rattle.std.specs.BTreeMap.{get_by_text}
use Rattle.std.proofs.lemmas.Option.{slice_get-map}
use Rattle.class_summary.specs.Names.{member_named}
use Rattle.class_summary.specs.UnitTables.{SourceUnit}
use Rattle.class_summary.proofs.UnitTables.{at_there}
use Rattle.class_summary.proofs.unit_names.UnitNames.member.Goals as goal

pub returns-in-Some-get : goal.returns-in-Some-get
returns-in-Some-get c =
    let tables = c.self.inside.members.items in
    let t = c.in-Some-get.table.now in
    let got : c.copied-in-Some-get.result ≡ get_by_text t c.args.name.now = search rules in
    let look = c.in-Some-get.ensures.lookup in
    let at : slice_get tables c.in-Some.class ≡ Some t = at_there tables c.deref.result.now c.in-Some.class t c.deref.ensures.value look.3.0 look.1 in
    let own : slice_get (map get_by_text tables) c.in-Some.class ≡ Some (get_by_text t) = slice_get-map get_by_text tables c.in-Some.class ∙ ap (option_map get_by_text) at in
    let gives = c.self.invariant.3 c.in-Some.class (get_by_text t) c.args.name.now own in
    got ∙ (gives ∙ (ap (λ (s : SourceUnit). member_named (Some c.in-Some.class) c.args.name.now s.classes) c.self.view_is ∙ ap (λ (o : Option ℕ). member_named o c.args.name.now c.args.self.now.classes) (sym c.in-Some.is)))
