use Rattle.std.proofs.Common.{◌≡◌, ◌≤◌, ◌-◌, length}
use Rattle.class_pool.specs.Reading.{on_ok}
use Rattle.class_shape.specs.Reading.{rest_of, many_at, attribute_at}
use Rattle.class_shape.proofs.parts.after_attributes.Given as goal

abbrev pub invariant-loop : goal.invariant-loop
invariant-loop l = record {
  same_end : l.rest.end ≡ l.left.end;
  within : length l.rest.bytes.now ≤ length l.left.bytes.now;
  so_far : on_ok rest_of (many_at (attribute_at l.left.end) (l.count - l.counter) l.rest.bytes.now) ≡ on_ok rest_of (many_at (attribute_at l.left.end) l.count l.left.bytes.now);
}
