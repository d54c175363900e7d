use Rattle.std.proofs.Common.{arith}
use Rattle.source_classes.proofs.LastParts.{last_parts}
use Rattle.source_classes.proofs.known.at_last_dollar.Goals as goal

pub returns : goal.returns
returns c = last_parts 36 c.args.name.now _ c.rsplit_once.ensures.cases (omega arith)
