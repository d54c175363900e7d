use Rattle.std.proofs.Common.{◌≡◌, ◌<◌, ℕ, true, length, map, take}
use Rattle.weight_bounds.specs.Users.{Uses, wants}
use Rattle.weight_bounds.proofs.users.add_users.Given as goal

abbrev pub invariant-loop-arg : goal.invariant-loop-arg
invariant-loop-arg l = record {
  as_many : length l.users.items ≡ length l.initial.users.items;
  kept : (t k : ℕ) → Uses (map (λ v. v.items) l.initial.users.items) t k → Uses (map (λ v. v.items) l.users.items) t k;
  added : (t : ℕ) → wants t (take l.arg-index l.initial.args) ≡ true → t < length l.initial.users.items → Uses (map (λ v. v.items) l.users.items) t l.initial.source;
}
