use Rattle.offers.proofs.Named.{spelled-some, spelled-none}
use Rattle.offers.proofs.reach.spelled.Goals as goal

pub returns-in-Some : goal.returns-in-Some
returns-in-Some c = spelled-some c.args.view.now.unit c.args.view.now.known c.args.parts.now c.in_ok-dotted.dotted c.in_ok-class.field-0 c.in-Some.class c.in_ok-dotted.ensures.text c.in_ok-class.ensures c.in-Some.is

pub returns : goal.returns
returns c = spelled-none c.args.view.now.unit c.args.view.now.known c.args.parts.now c.in_ok-dotted.dotted c.in_ok-class.field-0 c.in_ok-name-in-None.name c.in_ok-dotted.ensures.text c.in_ok-class.ensures c.in-None.is c.in_ok-name-in-None.ensures.text
