use Rattle.std.proofs.Common.{rules, ◌≡◌, ◌++◌, ◌∷◌, [], None}
use Rattle.known_classes.proofs.NearNames.{named_next}
use Rattle.known_classes.proofs.outer_first.no_names.Goals as goal

pub loop-place-preserved : goal.loop-place-preserved
loop-place-preserved g c =
    let more : c.push.new.self.items ≡ c.loop-place.named.items ++ None ∷ [] = search rules in
    named_next (g.L.ClassList.listed c.args.classes.now) c.loop-place._place c.loop-place.named.items c.push.new.self.items more c.loop-place.invariant
