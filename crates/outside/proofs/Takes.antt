-- Bytes that are taken one after the other.
use Rattle.std.proofs.Common.{ℕ, ◌+◌, ◌≤◌, List, [], ◌++◌, length, Option, arith, length-append}
use Rattle.std.proofs.KnownBytes.{Consumes-nil, Consumes-kept, Consumes-trans}
use Rattle.std.specs.Io.KnownBytes.{Consumes, Keeps}
use Rattle.outside.specs.Taken.{Took}

-- nothing is taken
pub took_none : (limit : ℕ) (a : Option (List ℕ)) → Took limit a a
took_none limit a = record {
  bytes = [];
  within = omega arith;
  consumed = Consumes-nil a;
}

-- nothing more is taken
pub took_kept : (limit : ℕ) (a b c : Option (List ℕ)) (p : List ℕ) → length p ≤ limit → Consumes a b p → Keeps b c → Took limit a c
took_kept limit a b c p l h k = record {
  bytes = p;
  within = l;
  consumed = Consumes-kept a b c p h k;
}

-- more is taken
pub took_more : (limit : ℕ) (a b c : Option (List ℕ)) (p q : List ℕ) → length p + length q ≤ limit → Consumes a b p → Consumes b c q → Took limit a c
took_more limit a b c p q l h k = record {
  bytes = p ++ q;
  within = omega (arith, length-append p q, l);
  consumed = Consumes-trans a b c p q h k;
}
