use Rattle.reconstruction.proofs.tables.tables_with_least.Goals as goal

pub weighed_by-requires : goal.weighed_by-requires
weighed_by-requires c = record { as_many = c.requires.as_many; in_range = c.requires.edges.in_range }

pub complete_tables-requires : goal.complete_tables-requires
complete_tables-requires c = record {
  compressed = c.requires.compressed;
  patterns = c.requires.patterns;
  edges = c.requires.edges;
  least = c.requires.least;
  totals = c.in_ok-weighed.ensures.totals;
  floors = c.in_ok-weighed.ensures.floors;
  usable = c.in_ok-weighed.ensures.usable;
}

pub returns : goal.returns
returns c = record { complete = c.complete_tables.ensures.complete; env = c.complete_tables.ensures.env }
