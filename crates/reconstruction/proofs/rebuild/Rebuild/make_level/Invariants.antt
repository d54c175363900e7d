use Rattle.std.proofs.Common.{◌≡◌, ◌≤◌}
use Rattle.reconstruction.proofs.rebuild.Rebuild.make_level.Given as goal

abbrev pub invariant-loop-turn : goal.invariant-loop-turn
invariant-loop-turn l = record {
  same : l.self.progress ≡ l.fn.self.progress;
  reached : l.self.reached ≡ l.fn.self.reached;
  rises : l.fn.self.pops ≤ l.self.pops;
}
