use Rattle.std.proofs.Common.{sym}
use Rattle.java_units.proofs.Walks.{seen-past, seen-rest}
use Rattle.java_units.proofs.lexemes.tail.Goals as goal

pub returns-then-n-lexemes : goal.returns-then-n-lexemes
returns-then-n-lexemes c = record { rest = sym (seen-past c.args.n c.args.lexemes.now c.if-n-lexemes.true) }

pub returns : goal.returns
returns c = record { rest = seen-rest c.args.n c.args.lexemes.now }
