use Rattle.std.proofs.Common.{rules, ◌≡◌, Some, None}
use Rattle.known_classes.specs.Known.{outer_in, simple_in}
use Rattle.known_classes.specs.NameTables.{IsName}
use Rattle.known_classes.proofs.NearNames.{near_top, near_plain, near_nested}
use Rattle.known_classes.proofs.outer_first.text_near.Goals as goal

pub returns-in_default : goal.returns-in_default
returns-in_default g c =
    let out : outer_in c.at-class.result.now.nesting ≡ None = search rules in
    near_top (g.L.ClassList.listed c.args.classes.now) c.args.place c.at-class.result.now c.in_ok-text.text c.requires.once c.at-class.ensures out c.in_ok-text.ensures

pub returns-in_default-simple_name : goal.returns-in_default-simple_name
returns-in_default-simple_name g c =
    let known = g.L.ClassList.listed c.args.classes.now in
    let outer = c.in-Some.outer.now in
    let out : outer_in c.at-class.result.now.nesting ≡ Some outer = search rules in
    let simple : simple_in c.at-class.result.now.nesting ≡ None = search rules in
    let near : IsName known outer c.in-Some-2.prefix = search rules in
    near_plain known c.args.place c.at-class.result.now outer c.in-Some-2.prefix c.in_ok-text-2.text c.requires.once c.at-class.ensures out simple near c.in_ok-text-2.ensures

pub returns : goal.returns
returns g c =
    let known = g.L.ClassList.listed c.args.classes.now in
    let outer = c.in-Some.outer.now in
    let simple = c.in-Some-simple_name.simple.now in
    let out : outer_in c.at-class.result.now.nesting ≡ Some outer = search rules in
    let sim : simple_in c.at-class.result.now.nesting ≡ Some simple = search rules in
    let near : IsName known outer c.in-Some-2.prefix = search rules in
    near_nested known c.args.place c.at-class.result.now outer simple c.in-Some-2.prefix c.in_ok-text-3.text c.requires.once c.at-class.ensures out sim near c.in_ok-text-3.ensures
