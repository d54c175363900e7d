use Rattle.std.proofs.Common.{◌≡◌, take, map}
use Rattle.std.specs.List.{range_with_len}
use Rattle.std.specs.Prelude.{codes}
use Rattle.class_summary.specs.Sources.{joined}
use Rattle.offers.proofs.hidden.prefixes.Given as goal

abbrev pub invariant-loop-i : goal.invariant-loop-i
invariant-loop-i l = l.all ≡ map (λ n. joined (codes ".") (take n l.parts)) (range_with_len 1 l.i)
