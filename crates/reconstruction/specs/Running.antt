-- What belongs together in a search.
use Rattle.std.specs.Prelude.{ℕ, max, List}
use Rattle.reconstruction.specs.Levelled.{AreComplete, IsAt, with_held}
use Rattle.reconstruction.specs.Pending.{Pending}
use Rattle.reconstruction.specs.Rebuilding.{IsOn}
use Rattle.reconstruction.specs.Tallied.{AreTallied}
use Rattle.reconstruction.specs.declared.item.Arena.{Arena}
use Rattle.reconstruction.specs.declared.tables.Tables.{Tables}

-- The tables say all that a search needs, and what is pending stands with the fronts found at the weight of the
-- level that was begun, or at the one from which levels are left. Nothing lighter is left to give, and each pop is
-- accounted for.
pub record IsRunning (t : Tables) (a : Arena) (from level : ℕ) (p : Pending) (found : List ℕ) : Type 0 where
  pub complete : AreComplete t
  pub at : IsAt t a (max from level) (with_held p.held p.queue) found
  pub on : IsOn t from level found
  pub tally : AreTallied t a level p.held p.queue p.pops
