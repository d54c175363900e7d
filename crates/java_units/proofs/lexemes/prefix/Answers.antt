use Rattle.std.proofs.Common.{sym}
use Rattle.java_units.proofs.Walks.{seen-all}
use Rattle.java_units.proofs.lexemes.prefix.Goals as goal

pub returns-then-n-lexemes : goal.returns-then-n-lexemes
returns-then-n-lexemes c = record { first = sym (seen-all c.args.n c.args.lexemes.now c.if-n-lexemes.true) }
