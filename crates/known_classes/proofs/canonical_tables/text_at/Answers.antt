use Rattle.std.proofs.Common.{rules, ◌≡◌, ◌<◌, arith, Some, None}
use Rattle.std.specs.Prelude.{IfSome}
use Rattle.known_classes.specs.Known.{class_named, outer_in, simple_in, IsPlaceOf}
use Rattle.known_classes.proofs.TextPlaces.{IsBefore, next_top, next_plain, next_nested, before_by, found_before}
use Rattle.known_classes.proofs.canonical_tables.text_at.Goals as goal

pub returns-in_default : goal.returns-in_default
returns-in_default g c =
    let out : outer_in c.at-class.result.now.nesting ≡ None = search rules in
    next_top (g.L.ClassList.listed c.args.classes.now) c.args.place c.at-class.result.now c.in_ok-text.text c.requires.once c.at-class.ensures out c.requires.closed c.in_ok-text.ensures

pub returns-in_default-simple_name : goal.returns-in_default-simple_name
returns-in_default-simple_name g c =
    let known = g.L.ClassList.listed c.args.classes.now in
    let outer = c.in-Some.outer.now in
    let out : outer_in c.at-class.result.now.nesting ≡ Some outer = search rules in
    let simple : simple_in c.at-class.result.now.nesting ≡ None = search rules in
    let found : IsPlaceOf known (class_named known outer) c.find.result = search rules in
    let near : IfSome c.find.result (λ q. q < c.args.place) = c.is_before.ensures c.if-not-is_before.false in
    let before : IsBefore known c.args.place outer = before_by known c.args.place outer c.find.result c.requires.once found near in
    next_plain known c.args.place c.at-class.result.now outer c.in_ok-text-2.text c.requires.once c.at-class.ensures out simple before c.requires.closed c.in_ok-text-2.ensures

pub outer_text-requires-clause-before : goal.outer_text-requires-clause-before
outer_text-requires-clause-before g c = λ around at.
    let known = g.L.ClassList.listed c.args.classes.now in
    let outer = c.in-Some.outer.now in
    let found : IsPlaceOf known (class_named known outer) c.find.result = search rules in
    let near : IfSome c.find.result (λ q. q < c.args.place) = c.is_before.ensures c.if-not-is_before.false in
    let before : IsBefore known c.args.place outer = before_by known c.args.place outer c.find.result c.requires.once found near in
    let l : around < c.args.place = found_before known c.args.place outer around before at in
    let s = c.requires.names.size in
    omega (arith, l, s)

pub returns : goal.returns
returns g c =
    let known = g.L.ClassList.listed c.args.classes.now in
    let outer = c.in-Some.outer.now in
    let simple = c.in-Some-simple_name.simple.now in
    let out : outer_in c.at-class.result.now.nesting ≡ Some outer = search rules in
    let sim : simple_in c.at-class.result.now.nesting ≡ Some simple = search rules in
    let found : IsPlaceOf known (class_named known outer) c.find.result = search rules in
    let near : IfSome c.find.result (λ q. q < c.args.place) = c.is_before.ensures c.if-not-is_before.false in
    let before : IsBefore known c.args.place outer = before_by known c.args.place outer c.find.result c.requires.once found near in
    next_nested known c.args.place c.at-class.result.now outer simple c.in_ok-prefix.prefix c.in_ok-text-3.text c.requires.once c.at-class.ensures out sim before c.requires.closed c.in_ok-prefix.ensures c.in_ok-text-3.ensures
