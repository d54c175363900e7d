use Rattle.std.proofs.Common.{rules, ◌≡◌, map, drop, true, false}
use Rattle.std.specs.Arc.{arc_value}
use Rattle.decl_index.specs.Places.{IsPlace, heads}
use Rattle.decl_index.proofs.Places.{is_found, not_found}
use Rattle.decl_index.proofs.sorted_classes.find.Goals as goal

pub returns-then-stands_at : goal.returns-then-stands_at
returns-then-stands_at c =
    let at : IsPlace (map arc_value c.args.classes.now) c.args.name.now c.place-at.result = search rules in
    let here : heads c.args.name.now (drop c.place-at.result (map arc_value c.args.classes.now)) ≡ true = search rules in
    is_found (map arc_value c.args.classes.now) c.args.name.now c.place-at.result at here

pub returns : goal.returns
returns c =
    let at : IsPlace (map arc_value c.args.classes.now) c.args.name.now c.place-at.result = search rules in
    let here : heads c.args.name.now (drop c.place-at.result (map arc_value c.args.classes.now)) ≡ false = search rules in
    not_found (map arc_value c.args.classes.now) c.args.name.now c.place-at.result c.requires at here
