use Rattle.std.proofs.Common.{◌≡◌}
use Rattle.offers.specs.Spellings.{with_dims}
use Rattle.offers.proofs.spelling.with_dims.Given as goal

abbrev pub invariant-loop-n : goal.invariant-loop-n
invariant-loop-n l = l.text ≡ with_dims l._n l.fn.text
