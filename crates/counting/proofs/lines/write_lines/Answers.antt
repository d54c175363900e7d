use Rattle.counting.proofs.Written.{on-err, gathered-none}
use Rattle.counting.proofs.lines.write_lines.Goals as goal

pub returns-in_err-put_lines-clause-prefix : goal.returns-in_err-put_lines-clause-prefix
returns-in_err-put_lines-clause-prefix g c =
    on-err c.from_residual.result (c.in_err-put_lines.ensures.prefix _ _ (gathered-none (g.K.Sink.written c.args.sink.now) _ c.new-gathering.ensures))

pub returns-in_err-flush-clause-prefix : goal.returns-in_err-flush-clause-prefix
returns-in_err-flush-clause-prefix g c =
    let put = c.in_ok-put_lines.ensures.added _ _ (gathered-none (g.K.Sink.written c.args.sink.now) _ c.new-gathering.ensures) in
    on-err c.from_residual-in_err-flush.result (c.in_err-flush.ensures.prefix _ _ put)

pub returns-clause-whole : goal.returns-clause-whole
returns-clause-whole g c =
    let put = c.in_ok-put_lines.ensures.added _ _ (gathered-none (g.K.Sink.written c.args.sink.now) _ c.new-gathering.ensures) in
    c.in_ok-flush.ensures.all _ _ put
