use Rattle.std.proofs.Common.{rules, ◌≡◌, map, Some, None, subst}
use Rattle.std.specs.BTreeMap.{get_by_text}
use Rattle.known_classes.specs.Known.{outer_in, simple_in}
use Rattle.known_classes.specs.Nested.{IsLesser}
use Rattle.known_classes.specs.NameTables.{member_place}
use Rattle.known_classes.proofs.MemberLemmas.{members_none, members_outer, hit_ok}
use Rattle.known_classes.proofs.members.add_member.Goals as goal

pub returns-in_default : goal.returns-in_default
returns-in_default g c =
    let out : outer_in c.at-class.result.now.nesting ≡ None = search rules in
    members_none (g.L.ClassList.listed c.args.classes.now) c.args.place c.at-class.result.now (get_by_text c.args.members.now.outers) (map get_by_text c.args.members.now.tables.items) c.at-class.ensures out c.requires.tables

pub returns-in_default-simple_name : goal.returns-in_default-simple_name
returns-in_default-simple_name g c =
    let out : outer_in c.at-class.result.now.nesting ≡ Some c.as_str.result.now = search rules in
    let simple : simple_in c.at-class.result.now.nesting ≡ None = search rules in
    members_outer (g.L.ClassList.listed c.args.classes.now) c.args.place c.at-class.result.now c.as_str.result.now (get_by_text c.args.members.now.outers) (get_by_text c.number_of.new.members.outers) (map get_by_text c.args.members.now.tables.items) (map get_by_text c.number_of.new.members.tables.items) c.at-class.ensures out simple c.in_ok-number_of.ensures.numbered c.in_ok-number_of.ensures.stays c.in_ok-number_of.ensures.outers c.requires.tables

pub returns : goal.returns
returns g c =
    let known = g.L.ClassList.listed c.args.classes.now in
    let old = get_by_text c.args.members.now.outers in
    let tables = map get_by_text c.args.members.now.tables.items in
    let outer = c.in-Some.outer.now in
    let simple = c.in-Some-simple_name.simple.now in
    let out : outer_in c.at-class.result.now.nesting ≡ Some outer = search rules in
    let sim : simple_in c.at-class.result.now.nesting ≡ Some simple = search rules in
    let best : c.member_place-best.result ≡ member_place old tables outer simple = search rules in
    let less : IsLesser known c.args.place (member_place old tables outer simple) c.lesser-least.result = subst (λ o. IsLesser known c.args.place o c.lesser-least.result) best c.lesser-least.ensures.class in
    let a : c.as_str-4.result.now ≡ outer = search rules in
    let b : c.as_str-5.result.now ≡ simple = search rules in
    hit_ok c.put_member.result known c.args.place c.at-class.result.now outer simple c.lesser-least.result old (get_by_text c.put_member.new.members.outers) tables (map get_by_text c.put_member.new.members.tables.items) c.at-class.ensures out sim c.lesser-least.ensures.within less c.as_str-4.result.now c.as_str-5.result.now a b c.put_member.ensures.numbered c.put_member.ensures.placed c.put_member.ensures.outers c.requires.tables
