use Rattle.std.proofs.Common.{◌≡◌, drop, bytes_eq}
use Rattle.std.specs.List.{list_any}
use Rattle.java_bodies.proofs.wanted.is_hidden.Given as goal

abbrev pub invariant-loop-i : goal.invariant-loop-i
invariant-loop-i l = list_any (λ h. bytes_eq h l.name) l.hidden ≡ list_any (λ h. bytes_eq h l.name) (drop l.i l.hidden)
