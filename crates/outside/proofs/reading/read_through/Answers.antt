use Rattle.std.proofs.Common.{rules, ◌+◌, ◌≤◌, List, ℕ, length, take}
use Rattle.outside.proofs.Pieces.{on_err}
use Rattle.outside.proofs.Takes.{took_kept, took_more}
use Rattle.outside.proofs.reading.read_through.Goals as goal

pub returns-in_err-count-clause-taken : goal.returns-in_err-count-clause-taken
returns-in_err-count-clause-taken g c =
    on_err c.from_residual.result (took_kept c.args.limit _ _ _ _ c.loop-bytes.invariant.bound c.loop-bytes.invariant.prefix c.in_err-count.ensures.bytes)

pub returns-in_err-extend_from_slice-clause-taken : goal.returns-in_err-extend_from_slice-clause-taken
returns-in_err-extend_from_slice-clause-taken g c =
    let p = c.loop-bytes.bytes.items in
    let q : List ℕ = take c.in_ok-count.count c.read.new.buf in
    let fits : length p + length q ≤ c.args.limit = search rules in
    on_err c.from_residual-in_err-extend_from_slice.result (took_more c.args.limit _ _ _ p q fits c.loop-bytes.invariant.prefix c.in_ok-count.ensures.bytes.0)
