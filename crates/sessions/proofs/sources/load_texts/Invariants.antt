use Rattle.std.proofs.Common.{◌≡◌, ◌≤◌, [], length}
use Rattle.std.specs.Prelude.{All}
use Rattle.outside.specs.Held.{longest_load}
use Rattle.sessions.specs.Publications.{LeavesFiles}
use Rattle.sessions.proofs.Sourcing.{IsUpTo}
use Rattle.sessions.proofs.sources.load_texts.Given as goal

abbrev pub invariant-loop-name : goal.invariant-loop-name
invariant-loop-name g l =
    let state = g.W.World.state in
    record {
      files : LeavesFiles ⊥ (state l.fn.world) (state l.world);
      read : IsUpTo (state l.fn.world).holds l.from l.names l.rest l.index l.texts;
      short : All (λ text. length text ≤ longest_load) l.texts;
      none : l.names ≡ [] → (l.rest ≡ []) × (state l.world ≡ state l.fn.world);
    }

abbrev pub decreases-loop-name : goal.decreases-loop-name
decreases-loop-name g l = length l.rest
