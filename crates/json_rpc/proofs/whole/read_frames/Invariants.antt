use Rattle.std.proofs.Common.{◌≡◌, ◌+◌, ◌≤◌, length, None}
use Rattle.json_rpc.specs.Streams.{budget}
use Rattle.json_rpc.specs.Whole.{Follows, bodies_of}
use Rattle.json_rpc.proofs.Takes.{IsFar}
use Rattle.json_rpc.proofs.whole.read_frames.Given as goal

abbrev pub invariant-loop : goal.invariant-loop
invariant-loop g l =
    let left = g.S.Source.left in
    let faults = g.S.Source.faults in
    record {
      fault : l.frames.fault ≡ None;
      follows : Follows l.frames (left l.fn.source) (left l.source) (bodies_of l.bodies.items);
      far : IsFar l.frames (left l.fn.source) (left l.source);
      within : l.frames.place + length l.frames.held ≤ budget;
      later : faults l.fn.source ≤ faults l.source;
    }
