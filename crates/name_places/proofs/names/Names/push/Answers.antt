use Rattle.std.proofs.Common.{rules, ◌≡◌, ◌++◌, ◌∷◌, []}
use Rattle.std.specs.Prelude.{string_bytes}
use Rattle.name_places.proofs.Places.{index-added}
use Rattle.name_places.proofs.names.Names.push.Goals as goal

pub invariant_of-self-in-Ok : goal.invariant_of-self-in-Ok
invariant_of-self-in-Ok c =
    let key : string_bytes c.in_ok-key.key ≡ c.args.name.now = c.in_ok-key.ensures.ok in
    let texts : c.push.new.self ≡ c.self.inside.texts ++ c.args.name.now ∷ [] = search rules in
    let fresh = c.requires.fresh in
    index-added c.self.inside.places c.insert.new.self _ c.args.name.now c.self.inside.texts c.push.new.self c.len-place.result c.in-Ok.ensures.updates key texts c.len-place.ensures (search rules) c.self.invariant
