use Rattle.std.proofs.Common.{◌≡◌, [], length}
use Rattle.sessions.specs.Publications.{LeavesFiles}
use Rattle.sessions.proofs.Filing.{IsUpTo}
use Rattle.sessions.proofs.loading.load_classes.Given as goal

abbrev pub invariant-loop-name : goal.invariant-loop-name
invariant-loop-name g l =
    let state = g.W.World.state in
    record {
      files : LeavesFiles ⊥ (state l.fn.world) (state l.world);
      read : IsUpTo (state l.fn.world).holds l.names l.rest l.index l.reading;
      none : l.names ≡ [] → (l.rest ≡ []) × (state l.world ≡ state l.fn.world);
    }

abbrev pub decreases-loop-name : goal.decreases-loop-name
decreases-loop-name g l = length l.rest
