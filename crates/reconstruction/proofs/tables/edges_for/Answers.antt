use Rattle.reconstruction.proofs.tables.edges_for.Goals as goal

pub derive-requires-clause-patterns : goal.derive-requires-clause-patterns
derive-requires-clause-patterns c = (c.args.env.now.goal, c.requires.patterns)
