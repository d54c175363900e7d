use Rattle.std.proofs.Common.{rules}
use Rattle.offers.specs.Scenes.{of_class}
use Rattle.offers.specs.Omissions.{same_descriptor}
use Rattle.offers.specs.Views.{scene}
use Rattle.offers.proofs.Lists.{none-of, one-of}
use Rattle.offers.proofs.overrides.is_same_below.Goals as goal

pub returns-then-not-is_owner_below : goal.returns-then-not-is_owner_below
returns-then-not-is_owner_below c = none-of (same_descriptor c.args.a.now c.args.b.now) ((scene c.args.view.now).below (of_class c.args.a.now.owner) (of_class c.args.b.now.owner)) c.is_owner_below.result c.is_owner_below.ensures (search rules)

pub returns : goal.returns
returns c = one-of (same_descriptor c.args.a.now c.args.b.now) ((scene c.args.view.now).below (of_class c.args.a.now.owner) (of_class c.args.b.now.owner)) c.is_owner_below.result c.in_ok-same.same c.is_owner_below.ensures (search rules) c.in_ok-same.ensures
