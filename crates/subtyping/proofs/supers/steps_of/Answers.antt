use Rattle.std.proofs.Common.{rules, ◌≡◌, ◌∙◌, sym, Some}
use Rattle.type_names.specs.Names.{object_name}
use Rattle.name_places.specs.Places.{place_of}
use Rattle.subtyping.proofs.Nodes.{without-set, set-below}
use Rattle.subtyping.proofs.supers.steps_of.Goals as goal

pub set-requires : goal.set-requires
set-requires c =
    let at : place_of c.args.names.now object_name ≡ Some c.in-Some.place = sym c.place_in.ensures ∙ c.in-Some.is in
    set-below c.args.names.now c.args.graph.now c.in_ok-rows.rows c.in-Some.place at c.requires.long c.in_ok-rows.ensures.exact

pub returns : goal.returns
returns c =
    let at : place_of c.args.names.now object_name ≡ Some c.in-Some.place = sym c.place_in.ensures ∙ c.in-Some.is in
    without-set c.args.names.now c.args.graph.now c.in_ok-rows.rows c.set.new.self c.in-Some.place at c.requires.long c.in_ok-rows.ensures.exact (search rules)
