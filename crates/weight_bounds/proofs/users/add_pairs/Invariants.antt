use Rattle.std.proofs.Common.{◌≡◌, ◌++◌, length, map, take}
use Rattle.weight_bounds.specs.Rules.{of_decl, of_pair}
use Rattle.weight_bounds.specs.Users.{AreUsers}
use Rattle.weight_bounds.proofs.users.add_pairs.Given as goal

abbrev pub invariant-loop-j : goal.invariant-loop-j
invariant-loop-j l = record {
  as_many : length l.users.items ≡ length l.initial.users.items;
  users : AreUsers (map of_decl l.initial.parts.decls ++ map (of_pair l.initial.parts) (take l.j l.initial.parts.pairs)) (map (λ v. v.items) l.users.items);
}
