use Rattle.std.proofs.Common.{◌≡◌, ◌≤◌, ◌+◌, ◌-◌}
use Rattle.terms.specs.Listing.{Skipped}
use Rattle.plain_listing.proofs.plain.Plain.advance.Given as goal

abbrev pub invariant-loop-alloc : goal.invariant-loop-alloc
invariant-loop-alloc l =
    let tables = l.self-inside.tables in
    record {
      parts : tables.parts ≡ l.fn.self.parts;
      from : l.self-inside.from ≡ l.fn.self.from;
      after : l.self-inside.from ≤ tables.from;
      skipped : Skipped tables.parts l.self-inside.from tables.from;
    }

abbrev pub decreases-loop-alloc : goal.decreases-loop-alloc
decreases-loop-alloc l = l.self-inside.tables.parts.limit + 1 - l.self-inside.tables.from
