use Rattle.std.proofs.Common.{rules, ◌≡◌, Some, None}
use Rattle.known_classes.specs.Known.{class_named, IsPlaceOf}
use Rattle.known_classes.proofs.NearNames.{unknown_name, around_name}
use Rattle.known_classes.proofs.outer_first.outer_near.Goals as goal

pub returns-in-Some : goal.returns-in-Some
returns-in-Some g c =
    let known = g.L.ClassList.listed c.args.classes.now in
    let at : IsPlaceOf known (class_named known c.args.outer.now) (Some c.in-Some.around) = search rules in
    around_name known c.args.outer.now c.in-Some.around c.name_at.result at c.name_at.ensures

pub returns-in_ok-dotted_text-in-None : goal.returns-in_ok-dotted_text-in-None
returns-in_ok-dotted_text-in-None g c =
    let known = g.L.ClassList.listed c.args.classes.now in
    let none : class_named known c.args.outer.now ≡ None = search rules in
    unknown_name known c.args.outer.now c.in_ok-dotted_text-in-None.field-0 none c.in_ok-dotted_text-in-None.ensures
