use Rattle.offers.specs.Views.{scene}
use Rattle.offers.proofs.SceneLaws.{scene-at}
use Rattle.offers.proofs.offer.offered_members.Goals as goal

pub returns : goal.returns
returns c = record {
  exact = record {
    scene = scene c.in_ok-view.view;
    is_scene = scene-at c.args.index.now c.args.unit.now c.args.site.now c.in_ok-view.view c.in_ok-known.known c.in_ok-own.own c.in_ok-subtypes.subtypes c.in_ok-view.ensures.outlook c.in_ok-known.ensures c.in_ok-own.ensures c.in_ok-subtypes.ensures.of_known;
    offer = c.in_ok-offer.ensures;
  };
}
