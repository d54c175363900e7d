use Rattle.std.proofs.Common.{ℕ, ◌<◌, length}
use Rattle.plain_listing.specs.Contexts.{Keeps, AreAllMet, AreShallow}
use Rattle.plain_listing.proofs.contexts.add_decls.Given as goal

abbrev pub invariant-loop-n : goal.invariant-loop-n
invariant-loop-n l = record {
  keeps : Keeps l.initial.contexts l.contexts;
  shallow : (depth : ℕ) → length l.outer < depth → AreShallow depth l.initial.contexts → AreShallow depth l.contexts;
  met : AreAllMet l.env l.contexts l.outer l.decls l.n;
}
