use Rattle.reconstruction.proofs.tables.tables_of.Goals as goal

pub tables_with_patterns-requires : goal.tables_with_patterns-requires
tables_with_patterns-requires c = record { compressed = c.in_ok-compressed.ensures.compressed; patterns = c.in_ok-patterns.ensures.patterns }

pub returns : goal.returns
returns c = record { complete = c.tables_with_patterns.ensures.complete; env = c.tables_with_patterns.ensures.env }
