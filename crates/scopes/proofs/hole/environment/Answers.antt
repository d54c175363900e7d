use Rattle.offers.specs.Offers.{IsSceneAt}
use Rattle.offers.specs.Views.{scene}
use Rattle.offers.proofs.SceneLaws.{scene-at}
use Rattle.scopes.proofs.Right.{right, at_hole}
use Rattle.scopes.proofs.hole.environment.Goals as goal

pub of_valid-requires-clause-valid : goal.of_valid-requires-clause-valid
of_valid-requires-clause-valid c =
    let s : IsSceneAt c.args.index.now c.args.unit.now c.args.site.now (scene c.in_ok-view.view) =
    scene-at c.args.index.now c.args.unit.now c.args.site.now c.in_ok-view.view c.in_ok-known.known c.in_ok-own.own c.in_ok-subtypes.subtypes c.in_ok-view.ensures.outlook c.in_ok-known.ensures c.in_ok-own.ensures c.in_ok-subtypes.ensures.of_known in
    right c.args.index.now c.args.unit.now c.args.site.now (scene c.in_ok-view.view) c.args.limit c.args.depth c.in_ok-parts.parts s c.in_ok-view.ensures.ranges c.requires.limit.0 c.requires.limit.1 c.requires.depth c.in_ok-parts.ensures

pub returns : goal.returns
returns c =
    let s : IsSceneAt c.args.index.now c.args.unit.now c.args.site.now (scene c.in_ok-view.view) =
    scene-at c.args.index.now c.args.unit.now c.args.site.now c.in_ok-view.view c.in_ok-known.known c.in_ok-own.own c.in_ok-subtypes.subtypes c.in_ok-view.ensures.outlook c.in_ok-known.ensures c.in_ok-own.ensures c.in_ok-subtypes.ensures.of_known in
    record { exact = at_hole c.args.index.now c.args.unit.now c.args.site.now (scene c.in_ok-view.view) c.args.limit c.args.depth c.in_ok-parts.parts c.in_ok-env.env s c.in_ok-parts.ensures c.in_ok-env.ensures.very_parts }
