use Rattle.std.proofs.Common.{rules}
use Rattle.graphs.proofs.Ranks.{neither}
use Rattle.graphs.proofs.Rows.{falls_away}
use Rattle.graphs.proofs.cycles.comes_back.Goals as goal

pub returns-then-number_of : goal.returns-then-number_of
returns-then-number_of c = (neither, λ h. absurd (falls_away c.args.numbered.now.graph.now c.args.numbered.now.numbers.now c.args.edge.0 c.args.edge.1 (c.args.numbered.now.falling (search rules)) (search rules) h))
