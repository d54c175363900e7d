use Rattle.std.proofs.Common.{rules}
use Rattle.graphs.proofs.Ranks.{falls_free, neither}
use Rattle.graphs.proofs.cycles.reaches_itself.Goals as goal

pub returns-then-all_below : goal.returns-then-all_below
returns-then-all_below c = (neither, λ h. absurd (falls_free c.args.numbered.now.graph.now c.args.numbered.now.numbers.now c.args.node (c.args.numbered.now.falling (search rules)) (search rules) h))
