use Rattle.std.proofs.Common.{◌≡◌, length, map, take}
use Rattle.weight_bounds.specs.Rules.{of_decl}
use Rattle.weight_bounds.specs.Users.{AreUsers}
use Rattle.weight_bounds.proofs.users.add_decls.Given as goal

abbrev pub invariant-loop-i : goal.invariant-loop-i
invariant-loop-i l = record {
  as_many : length l.users.items ≡ length l.initial.users.items;
  users : AreUsers (map of_decl (take l.i l.initial.parts.decls)) (map (λ v. v.items) l.users.items);
}
