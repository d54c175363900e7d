use Rattle.std.proofs.Common.{◌≤◌, ◌+◌, ◌^◌, ◌-◌, length}
use Rattle.json_rpc.specs.Streams.{Taken, budget}
use Rattle.json_rpc.proofs.frames.Frames.fresh.Given as goal

abbrev pub invariant-loop-body : goal.invariant-loop-body
invariant-loop-body g l = record {
  far : Taken l.fn.self l.self (g.S.Source.left l.fn.source) (g.S.Source.left l.source);
  bound : l.self.place + length l.self.held ≤ budget;
  later : g.S.Source.faults l.fn.source ≤ g.S.Source.faults l.source;
}

abbrev pub decreases-loop-body : goal.decreases-loop-body
decreases-loop-body g l = 2 ^ 40 - (l.self.place + length l.self.held)
