use Rattle.std.specs.Str.{chars}
use Rattle.documents.proofs.Laws.{offset-back, offset-line, offset-unit}
use Rattle.documents.proofs.document.Document.offset.Goals as goal

pub returns-clause-line : goal.returns-clause-line
returns-clause-line c = offset-line c.args.line c.args.unit (chars c.args.self.now) c.place.result c.place.ensures.value

pub returns-clause-unit : goal.returns-clause-unit
returns-clause-unit c = offset-unit c.args.line c.args.unit (chars c.args.self.now) c.place.result c.place.ensures.value

pub returns-clause-back : goal.returns-clause-back
returns-clause-back c = offset-back c.args.line c.args.unit (chars c.args.self.now) c.place.result c.place.ensures.value
