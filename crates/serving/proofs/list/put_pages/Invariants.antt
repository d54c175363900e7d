use Rattle.std.proofs.Common.{◌≡◌, ◌≤◌, ◌-◌}
use Rattle.serving.specs.Runs.{HasGiven}
use Rattle.serving.proofs.list.put_pages.Given as goal

abbrev pub invariant-loop-from : goal.invariant-loop-from
invariant-loop-from g l =
    let written = g.K.Sink.written in
    let faults = g.K.Sink.faults in
    record {
      same : l.listing.parts ≡ l.fn.listing.parts;
      given : HasGiven l.fn.listing.parts l.from (written l.fn.sink) (written l.sink) l.fn.gathering l.gathering;
      later : faults l.fn.sink ≤ faults l.sink;
    }

abbrev pub decreases-loop-from : goal.decreases-loop-from
decreases-loop-from g l = 4611686018427387904 - l.from
