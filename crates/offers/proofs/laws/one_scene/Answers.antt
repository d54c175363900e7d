use Rattle.offers.proofs.OneScene.{one-scene}
use Rattle.offers.proofs.laws.one_scene.Goals as goal

pub returns : goal.returns
returns c = record { law = one-scene }
