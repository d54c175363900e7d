use Rattle.std.proofs.Common.{refl}
use Rattle.std.proofs.lemmas.Result.{on_ok_weaker}
use Rattle.reconstruction.proofs.Ways.{grew-more}
use Rattle.reconstruction.proofs.variables.grow.Goals as goal

pub returns-clause-grew : goal.returns-clause-grew
returns-clause-grew c = on_ok_weaker c.grow_edges.result (λ k. grew-more _ _ _ _ c.args.parent _ _ _ _ _ _ c.requires.parent c.in_ok-grow_variables.ensures.grew k refl) c.grow_edges.ensures.grew
