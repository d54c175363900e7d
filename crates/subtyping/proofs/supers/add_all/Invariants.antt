use Rattle.std.proofs.Common.{ℕ, List, take, Contains}
use Rattle.name_places.specs.Places.{IsPlaced, IsGrown}
use Rattle.subtyping.proofs.supers.add_all.Given as goal

abbrev pub invariant-loop-name : goal.invariant-loop-name
invariant-loop-name l = record {
  placed : (b : List ℕ) → Contains (take l.name-index l.supers) b → IsPlaced l.names b;
  grown : IsGrown l.fn.names l.names;
}
