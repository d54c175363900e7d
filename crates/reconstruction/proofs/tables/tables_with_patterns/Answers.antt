use Rattle.reconstruction.proofs.tables.tables_with_patterns.Goals as goal

pub edges_for-requires : goal.edges_for-requires
edges_for-requires c = record { compressed = c.requires.compressed; patterns = c.requires.patterns }

pub tables_with_edges-requires : goal.tables_with_edges-requires
tables_with_edges-requires c = record { compressed = c.requires.compressed; patterns = c.requires.patterns; edges = c.in_ok-edges.ensures.edges }

pub returns : goal.returns
returns c = record { complete = c.tables_with_edges.ensures.complete; env = c.tables_with_edges.ensures.env }
