use Rattle.std.proofs.Common.{◌≡◌, List, ℕ, subst}
use Rattle.outside.specs.Gathered.{WrotePrefix}
use Rattle.outside.proofs.Pieces.{prefix_of_held, on_err}
use Rattle.outside.proofs.gathering.Gathering.flush.Goals as goal

pub returns-in_err-write_all-clause-prefix : goal.returns-in_err-write_all-clause-prefix
returns-in_err-write_all-clause-prefix g c =
    let written = g.K.Sink.written in
    let held : c.as_slice.result.now ≡ c.args.self.now = search in
    let P : List ℕ → Type 0 = λ xs. WrotePrefix (written c.args.sink.now) (written c.write_all.new.sink) xs in
    let prefix = subst P held c.in_err-write_all.ensures.prefix in
    on_err c.from_residual.result (λ start all gathered. prefix_of_held start _ _ _ all gathered prefix)
