use Rattle.std.proofs.Common.{rules, ◌≡◌, ◌<◌, length, get_or, Some, None, ◌∙◌}
use Rattle.known_classes.specs.Known.{class_named, IsPlaceOf}
use Rattle.decl_index.proofs.Searches.{follow-first, follow-next, follow-skip}
use Rattle.decl_index.proofs.cycle_search.reached.Goals as goal

pub loop-next-init : goal.loop-next-init
loop-next-init c = follow-first c.args.classes.now c.args.from.now c.new-found.result c.follow.new.found c.in_ok-follow.ensures

pub loop-next-preserved-in_default-find : goal.loop-next-preserved-in_default-find
loop-next-preserved-in_default-find c =
    let cs = c.args.classes.now in
    let there : c.loop-next.next < length c.loop-next.found = search rules in
    let read : c.in-Some.name.now ≡ get_or c.loop-next.found c.loop-next.next c.in-Some.name.now = search rules in
    let none : class_named cs c.in-Some.name.now ≡ None = search rules in
    follow-skip cs c.args.from.now c.loop-next.next c.loop-next.found c.in-Some.name.now there read none c.loop-next.invariant

pub loop-next-preserved : goal.loop-next-preserved
loop-next-preserved c =
    let cs = c.args.classes.now in
    let there : c.loop-next.next < length c.loop-next.found = search rules in
    let read : c.in-Some.name.now ≡ get_or c.loop-next.found c.loop-next.next c.in-Some.name.now = search rules in
    let at : IsPlaceOf cs (class_named cs c.in-Some.name.now) (Some c.in-Some-find.place) = search rules in
    let known : class_named cs c.in-Some.name.now ≡ Some c.at-class.result.now = at.1 ∙ c.at-class.ensures in
    follow-next cs c.args.from.now c.loop-next.next c.loop-next.found c.follow-in-loop-next.new.found c.in-Some.name.now c.at-class.result.now there read known c.in_ok-follow-2.ensures c.loop-next.invariant
