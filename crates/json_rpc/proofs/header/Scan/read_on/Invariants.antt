use Rattle.std.proofs.Common.{◌≤◌, ◌-◌, length}
use Rattle.json_rpc.specs.Prefixes.{Leads}
use Rattle.json_rpc.proofs.header.Scan.read_on.Given as goal

abbrev pub invariant-loop-self : goal.invariant-loop-self
invariant-loop-self l = record {
  leads : Leads l.bytes l.fn.self l.self;
  within : l.self.read ≤ length l.bytes;
  line : l.self.line ≤ l.self.read;
}

abbrev pub decreases-loop-self : goal.decreases-loop-self
decreases-loop-self l = length l.bytes - l.self.read
