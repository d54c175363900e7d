use Rattle.std.proofs.Common.{◌≡◌, ◌≤◌, ◌*◌, take, length}
use Rattle.json.specs.Print.{escape}
use Rattle.json_rpc.proofs.write.escaped_length.Given as goal

abbrev pub invariant-loop-i : goal.invariant-loop-i
invariant-loop-i l = record {
  length : l.length ≡ length (escape (take l.i l.bytes));
  bound : l.length ≤ 6 * l.i;
}
