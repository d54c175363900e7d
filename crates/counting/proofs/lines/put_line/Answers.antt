use Rattle.counting.specs.Lines.{line_text}
use Rattle.counting.proofs.Written.{on-err, prefix-handed, prefix-more}
use Rattle.counting.proofs.lines.put_line.Goals as goal

pub returns-in_err-line-clause-prefix : goal.returns-in_err-line-clause-prefix
returns-in_err-line-clause-prefix g c =
    on-err c.from_residual.result (λ start all gathered. prefix-more start _ all (line_text (c.args.key.now, c.args.number)) (prefix-handed start _ _ all gathered))
