use Rattle.std.proofs.Common.{◌≡◌, ◌∙◌, length, ap, sym, arith, List}
use Rattle.std.specs.Prelude.{slice_get}
use Rattle.std.specs.Arc.{arc_value}
use Rattle.std.proofs.lemmas.List.{length-map}
use Rattle.known_classes.specs.declared.summary.ClassSummary.{ClassSummary}
use Rattle.decl_index.proofs.sorted_classes.SortedClassList.at.Goals as goal

pub class_at-requires : goal.class_at-requires
class_at-requires c =
    let s : length c.args.self.now ≡ length c.self.inside.classes.now = ap length (sym c.self.view_is) ∙ length-map c.self.inside.classes.now arc_value in
    omega (arith, s, c.requires)

pub returns : goal.returns
returns c = ap (λ (cs : List ClassSummary). slice_get cs c.args.place) (sym c.self.view_is) ∙ c.class_at.ensures
