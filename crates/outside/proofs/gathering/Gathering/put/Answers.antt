use Rattle.std.proofs.Common.{rules, ◌≡◌, ◌++◌, List, ℕ, subst, sym}
use Rattle.outside.specs.Gathered.{Gathered}
use Rattle.outside.proofs.Pieces.{prefix_stands, gathered_more, gathered_none, on_err}
use Rattle.outside.proofs.gathering.Gathering.put.Goals as goal

pub returns-in_err-extend_from_slice-clause-prefix : goal.returns-in_err-extend_from_slice-clause-prefix
returns-in_err-extend_from_slice-clause-prefix g c = on_err c.from_residual.result (λ start all gathered. prefix_stands start _ _ all _ gathered)

pub returns-clause-added : goal.returns-clause-added
returns-clause-added g c = λ start all gathered.
    let written = g.K.Sink.written in
    let held : c.extend_from_slice.new.self.items ≡ c.args.self.now ++ c.args.bytes.now = search rules in
    let P : List ℕ → Type 0 = λ xs. Gathered start (written c.args.sink.now) xs (all ++ c.args.bytes.now) in
    let more = subst P (sym held) (gathered_more start _ _ all c.args.bytes.now gathered) in
    let all_written = c.in_ok-flush.ensures.all start (all ++ c.args.bytes.now) more in
    let Q : List ℕ → Type 0 = λ xs. Gathered start (written c.flush.new.sink) xs (all ++ c.args.bytes.now) in
    subst Q (sym c.in_ok-flush.ensures.empty) (gathered_none start _ _ all_written)
