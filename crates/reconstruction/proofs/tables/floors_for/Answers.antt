use Rattle.std.proofs.Common.{List, ℕ, subst, sym}
use Rattle.reconstruction.specs.Totals.{AreLightest}
use Rattle.reconstruction.proofs.tables.floors_for.Goals as goal

pub lightest_for-requires : goal.lightest_for-requires
lightest_for-requires c = record { as_many = c.requires.as_many; in_range = c.requires.in_range }

pub all_floors-requires : goal.all_floors-requires
all_floors-requires c = record {
  light = subst (λ (l : List ℕ). AreLightest c.args.env.now c.args.edges.now c.args.totals.now l) (sym c.as_slice.ensures) c.in_ok-lightest.ensures.light;
}

pub returns : goal.returns
returns c = record { floors = c.all_floors.ensures.floors }
