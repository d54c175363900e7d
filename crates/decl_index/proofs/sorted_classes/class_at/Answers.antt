use Rattle.std.proofs.Common.{rules, ◌≡◌, ◌∙◌, ap, sym}
use Rattle.std.specs.Prelude.{Some}
use Rattle.std.specs.Arc.{arc_value}
use Rattle.decl_index.proofs.RowLemmas.{got_read}
use Rattle.decl_index.proofs.sorted_classes.class_at.Goals as goal

pub returns : goal.returns
returns c =
    let out : c.deref.result.now ≡ arc_value c.index-classes-place.result = search rules in
    got_read arc_value c.args.classes.now c.args.place c.index-classes-place.result c.requires c.index-classes-place.is ∙ ap Some (sym out)
