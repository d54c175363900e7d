use Rattle.std.proofs.Common.{◌≡◌, drop}
use Rattle.outside.specs.Held.{held_under}
use Rattle.outside.proofs.shelf.load_held.Given as goal

abbrev pub invariant-loop-file : goal.invariant-loop-file
invariant-loop-file l = held_under l.files l.name ≡ held_under (drop l.file-index l.files) l.name
