use Rattle.std.proofs.Common.{rules, ◌≡◌, ◌<◌, length, map, sym, ◌∙◌, get_or}
use Rattle.std.specs.Arc.{arc_value}
use Rattle.std.proofs.lemmas.List.{length-map}
use Rattle.decl_index.specs.History.{order}
use Rattle.decl_index.proofs.Places.{mapped}
use Rattle.decl_index.proofs.Merges.{prefix-order-at}
use Rattle.decl_index.proofs.merge.order_at.Goals as goal

pub returns-in-Some : goal.returns-in-Some
returns-in-Some c =
    let l : c.args.place < length c.args.classes.now = search rules in
    let e : c.in-Some.class.now ≡ get_or c.args.classes.now c.args.place c.in-Some.class.now = search rules in
    let s : c.compare.result ≡ order (arc_value c.in-Some.class.now).name c.args.name.now = search rules in
    s ∙ sym (prefix-order-at (map arc_value c.args.classes.now) c.args.place (arc_value c.in-Some.class.now) c.args.name.now (search (rules, length-map)) (mapped arc_value c.args.classes.now c.args.place c.in-Some.class.now l e))
