use Rattle.std.proofs.Common.{rules, ◌∙◌, sym, ap, Some}
use Rattle.std.specs.Str.{chars}
use Rattle.documents.proofs.Moves.{line-at, no_line}
use Rattle.documents.proofs.starts.known_line.Goals as goal

pub returns-then-line-starts-clause-value : goal.returns-then-line-starts-clause-value
returns-then-line-starts-clause-value c = no_line c.args.text.now c.args.starts.now c.args.line c.utf8.text (c.requires.starts c.requires.some) (search rules)

pub from_byte-requires : goal.from_byte-requires
from_byte-requires c = (line-at c.args.text.now c.args.starts.now c.args.line c.utf8.text (c.requires.starts c.requires.some) (search rules)).boundary

pub returns-clause-value : goal.returns-clause-value
returns-clause-value c = (line-at c.args.text.now c.args.starts.now c.args.line c.utf8.text (c.requires.starts c.requires.some) (search rules)).is ∙ ap (λ x. Some (chars x)) (sym c.from_byte.ensures.value)
