use Rattle.std.proofs.Common.{arith, rules, take, ℕ, ◌+◌}
use Rattle.std.specs.Prelude.{codes}
use Rattle.class_summary.specs.Sources.{joined}
use Rattle.offers.proofs.Lists.{range-from}
use Rattle.offers.proofs.hidden.prefixes.Goals as goal

pub loop-i-preserved : goal.loop-i-preserved
loop-i-preserved c = range-from (λ (n : ℕ). joined (codes ".") (take n c.in_ok-parts.parts)) 1 c.loop-i.i (c.loop-i.i + 1) c.loop-i.all c.push.new.self c.in_ok-prefix.field-0 (omega arith) c.loop-i.invariant (search rules) c.in_ok-push.ensures.ok
