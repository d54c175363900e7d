use Rattle.std.proofs.Common.{[], ◌≡◌, ◌-◌}
use Rattle.class_pool.specs.Reading.{on_ok}
use Rattle.class_shape.specs.Reading.{many_at, member_at}
use Rattle.class_shape.proofs.Loops.{prefixed}
use Rattle.class_shape.proofs.tables.many_members.Given as goal

abbrev pub invariant-loop : goal.invariant-loop
invariant-loop l = record {
  same_end : l.rest.end ≡ l.left.end;
  so_far : on_ok (prefixed l.all.items) (many_at (member_at l.left.end) (l.count - l.counter) l.rest.bytes.now) ≡ on_ok (prefixed []) (many_at (member_at l.left.end) l.count l.left.bytes.now);
}
