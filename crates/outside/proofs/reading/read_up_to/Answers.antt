use Rattle.outside.proofs.Pieces.{on_err}
use Rattle.outside.proofs.Takes.{took_none}
use Rattle.outside.proofs.reading.read_up_to.Goals as goal

pub returns-in_err-buf-clause-taken : goal.returns-in_err-buf-clause-taken
returns-in_err-buf-clause-taken g c = on_err c.from_residual.result (took_none c.args.limit _)
