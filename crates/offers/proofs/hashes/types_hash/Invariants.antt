use Rattle.std.proofs.Common.{◌≡◌, take}
use Rattle.std.specs.Prelude.{fold}
use Rattle.offers.specs.Hashing.{type_hash}
use Rattle.offers.proofs.hashes.types_hash.Given as goal

abbrev pub invariant-loop-kind : goal.invariant-loop-kind
invariant-loop-kind l = l.whole ≡ fold type_hash l.hash (take l.kind-index l.kinds)
