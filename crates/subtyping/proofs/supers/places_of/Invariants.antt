use Rattle.std.proofs.Common.{◌≡◌, take}
use Rattle.std.specs.List.{filter_map}
use Rattle.name_places.specs.Places.{place_of}
use Rattle.subtyping.proofs.supers.places_of.Given as goal

abbrev pub invariant-loop-name : goal.invariant-loop-name
invariant-loop-name l = l.row ≡ filter_map (place_of l.names) (take l.name-index l.supers)
