use Rattle.std.proofs.Common.{sym}
use Rattle.java_resolve.proofs.TextFacts.{no_type}
use Rattle.java_resolve.proofs.texts.type_text.Goals as goal

pub returns-in-None : goal.returns-in-None
returns-in-None c = no_type c.args.parts.now c.args.number (sym c.in-None.ensures.value)
