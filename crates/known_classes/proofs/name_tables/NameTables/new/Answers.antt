use Rattle.known_classes.proofs.name_tables.NameTables.new.Goals as goal

pub returns-clause-tables : goal.returns-clause-tables
returns-clause-tables g c = record {
  once = c.in_ok-canonical.ensures.once;
  texts = c.requires.names;
  canonical = c.in_ok-canonical.ensures.table;
  members = c.in_ok-members.ensures;
}
