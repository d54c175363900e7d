use Rattle.std.proofs.Common.{List, ℕ, length, subst, ap, ◌∙◌}
use Rattle.reconstruction.specs.Usable.{AreFloors, AreUsable}
use Rattle.reconstruction.proofs.tables.weighed_by.Goals as goal

pub floors_for-requires : goal.floors_for-requires
floors_for-requires c = record { as_many = ap (λ (l : List ℕ). length l) c.as_slice.ensures ∙ c.in_ok-totals.ensures.totals.as_many; in_range = c.requires.in_range }

pub returns : goal.returns
returns c = record {
  totals = c.in_ok-totals.ensures.totals;
  floors = subst (λ (l : List ℕ). AreFloors c.args.env.now c.args.edges.now l c.in_ok-floors.floors) c.as_slice.ensures c.in_ok-floors.ensures.floors;
  usable = subst (λ (l : List ℕ). AreUsable c.args.env.now.limit l c.args.edges.now c.in_ok-usable.usable) c.as_slice-2.ensures c.in_ok-usable.ensures.usable;
}
