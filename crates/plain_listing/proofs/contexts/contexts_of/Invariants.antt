use Rattle.std.proofs.Common.{◌≡◌, [], Some, slice_get}
use Rattle.plain_listing.specs.Contexts.{AreShallow, AreClosed}
use Rattle.plain_listing.proofs.contexts.contexts_of.Given as goal

abbrev pub invariant-loop-n : goal.invariant-loop-n
invariant-loop-n l = record {
  first : slice_get l.contexts 0 ≡ Some [];
  shallow : AreShallow l.depth l.contexts;
  closed : AreClosed l.env l.depth l.contexts l.n;
}
