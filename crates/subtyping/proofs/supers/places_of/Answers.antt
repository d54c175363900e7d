use Rattle.std.proofs.Common.{◌∙◌, sym, ap}
use Rattle.known_classes.proofs.KeptItems.{kept_on, dropped_on}
use Rattle.name_places.specs.Places.{place_of}
use Rattle.subtyping.proofs.supers.places_of.Goals as goal

pub loop-name-preserved-in_default : goal.loop-name-preserved-in_default
loop-name-preserved-in_default c = dropped_on (place_of c.args.names.now) c.args.supers.now c.loop-name.name-index c.name-item.result c.loop-name.row c.loop-name-test.true c.name-item.is (ap (place_of c.args.names.now) (sym c.as_str.ensures) ∙ sym c.place_in.ensures ∙ c.in_default.is) c.loop-name.invariant

pub loop-name-preserved : goal.loop-name-preserved
loop-name-preserved c = kept_on (place_of c.args.names.now) c.args.supers.now c.loop-name.name-index c.name-item.result c.loop-name.row c.push.new.self c.in-Some.place c.loop-name-test.true c.name-item.is (ap (place_of c.args.names.now) (sym c.as_str.ensures) ∙ sym c.place_in.ensures ∙ c.in-Some.is) c.in_ok-push.ensures.ok c.loop-name.invariant
