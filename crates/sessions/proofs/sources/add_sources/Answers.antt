use Rattle.std.proofs.Common.{rules, refl, sym}
use Rattle.sessions.proofs.Filing.{files_start, files_as}
use Rattle.sessions.proofs.Sourcing.{added_ok, added_err, failed_told}
use Rattle.sessions.proofs.sources.add_sources.Goals as goal

pub returns-in-Ok-clause-gives : goal.returns-in-Ok-clause-gives
returns-in-Ok-clause-gives g c =
    let state = g.W.World.state c.args.world.now in
    added_ok state.holds _ _ _ _ _ _ c.args.puts c.in_ok-all-in-Ok.all c.in-Ok.texts _ (search rules) c.as_slice.ensures c.as_slice-known.ensures c.as_slice-in-Ok.ensures c.in-Ok.ensures.texts c.in_ok-all-in-Ok.ensures.exact
