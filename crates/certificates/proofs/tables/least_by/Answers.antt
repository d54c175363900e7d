use Rattle.certificates.proofs.tables.least_by.Goals as goal

pub derive-requires-clause-patterns : goal.derive-requires-clause-patterns
derive-requires-clause-patterns c = (c.args.env.now.goal, c.requires.patterns)
