use Rattle.std.proofs.Common.{◌≡◌, take}
use Rattle.java_resolve.specs.Known.{Adds, Begins}
use Rattle.java_resolve.proofs.expressions.bind.Given as goal

abbrev pub invariant-loop-binder : goal.invariant-loop-binder
invariant-loop-binder l = record {
  adds : Adds l.fn.passing.set l.passing.set (take l.binder-index l.binders);
  kept : Begins l.fn.passing.set.keys l.passing.set.keys;
  place : l.passing.at ≡ l.fn.passing.at;
}
