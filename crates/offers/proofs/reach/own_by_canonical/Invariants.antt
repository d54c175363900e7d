use Rattle.std.proofs.Common.{◌≡◌, ◌-◌, length}
use Rattle.std.specs.Prelude.{bytes_eq}
use Rattle.class_summary.specs.Sources.{canonical_name}
use Rattle.class_summary.specs.Names.{own_by_canonical, first_from}
use Rattle.offers.proofs.reach.own_by_canonical.Given as goal

abbrev pub invariant-loop-i : goal.invariant-loop-i
invariant-loop-i l = own_by_canonical l.unit l.name ≡ first_from (length l.unit.classes - l.i) l.i (λ i. bytes_eq l.name (canonical_name l.unit i))
