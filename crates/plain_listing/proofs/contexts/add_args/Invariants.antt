use Rattle.std.proofs.Common.{ℕ, ◌<◌, length}
use Rattle.plain_listing.specs.Contexts.{Keeps, AreMet, AreShallow}
use Rattle.plain_listing.proofs.contexts.add_args.Given as goal

abbrev pub invariant-loop-i : goal.invariant-loop-i
invariant-loop-i l = record {
  keeps : Keeps l.initial.contexts l.contexts;
  shallow : (depth : ℕ) → length l.outer < depth → AreShallow depth l.initial.contexts → AreShallow depth l.contexts;
  met : AreMet l.env l.contexts l.outer l.wanted l.i;
}
