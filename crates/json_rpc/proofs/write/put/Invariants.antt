use Rattle.std.proofs.Common.{◌≡◌, ◌+◌, ◌++◌, take}
use Rattle.json_rpc.proofs.write.put.Given as goal

abbrev pub invariant-loop-i : goal.invariant-loop-i
invariant-loop-i l = take (l.place + l.i) l.buffer ≡ take l.place l.initial.buffer ++ take l.i l.bytes
