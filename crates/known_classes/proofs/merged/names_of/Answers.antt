use Rattle.known_classes.proofs.Beside.{behind_base}
use Rattle.known_classes.proofs.merged.names_of.Goals as goal

pub tables_behind-requires : goal.tables_behind-requires
tables_behind-requires g c = behind_base (g.C.Classes.listed c.args.base.now) c.args.parts.now c.count.result c.count.ensures.size (c.requires c.if-keeps.true)
