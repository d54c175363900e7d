use Rattle.std.proofs.Common.{◌≡◌, take}
use Rattle.std.specs.Prelude.{fold}
use Rattle.offers.specs.Hashing.{mixed}
use Rattle.offers.proofs.hashes.text_hash.Given as goal

abbrev pub invariant-loop-byte : goal.invariant-loop-byte
invariant-loop-byte l = l.whole ≡ fold mixed l.hash (take l.byte-index l.byte-items)
