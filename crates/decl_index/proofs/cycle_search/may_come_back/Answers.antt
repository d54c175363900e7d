use Rattle.std.proofs.Common.{rules, ◌≡◌, ◌∙◌, Some, None, Contains}
use Rattle.known_classes.specs.Known.{class_named, IsPlaceOf}
use Rattle.decl_index.specs.Changed.{IsReached}
use Rattle.decl_index.proofs.Searches.{avoids-unknown, avoids-reached, not-one}
use Rattle.decl_index.proofs.cycle_search.may_come_back.Goals as goal

pub returns-in_default : goal.returns-in_default
returns-in_default c = λ e.
    let none : class_named c.args.classes.now c.args.name.now ≡ None = search rules in
    avoids-unknown c.args.classes.now c.args.name.now none

pub returns-in-Some-2 : goal.returns-in-Some-2
returns-in-Some-2 c = λ e.
    let cs = c.args.classes.now in
    let at : IsPlaceOf cs (class_named cs c.args.name.now) (Some c.in-Some.place) = search rules in
    let known : class_named cs c.args.name.now ≡ Some c.at.result.now = at.1 ∙ c.at.ensures in
    let reached : IsReached cs c.at.result.now c.in-Some-2.found = search rules in
    let complete = λ (h : Contains c.in-Some-2.found c.args.name.now). c.is_one_of.ensures.complete (rw c.as_slice.ensures h) in
    avoids-reached cs c.args.name.now c.at.result.now c.in-Some-2.found known reached (not-one c.is_one_of.result complete e)
