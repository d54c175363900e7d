use Rattle.reconstruction.proofs.tables.tables_with_edges.Goals as goal

pub least_for-requires : goal.least_for-requires
least_for-requires c = record { compressed = c.requires.compressed; patterns = c.requires.patterns; edges = c.requires.edges }

pub tables_with_least-requires : goal.tables_with_least-requires
tables_with_least-requires c = record { compressed = c.requires.compressed; patterns = c.requires.patterns; edges = c.requires.edges; least = c.in_ok-least.ensures.least; as_many = c.in_ok-least.ensures.as_many }

pub returns : goal.returns
returns c = record { complete = c.tables_with_least.ensures.complete; env = c.tables_with_least.ensures.env }
