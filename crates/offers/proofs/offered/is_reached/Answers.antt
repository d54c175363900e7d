use Rattle.std.proofs.Common.{◌∙◌, ap, arith, rules, length}
use Rattle.std.specs.List.{list_any}
use Rattle.offers.specs.Reach.{is_in_reach, chain}
use Rattle.offers.specs.Views.{scene}
use Rattle.offers.proofs.Chains.{any-yes, any-end, any-on, any-last}
use Rattle.offers.proofs.offered.is_reached.Goals as goal

pub returns-then-has : goal.returns-then-has
returns-then-has c = any-yes (list_any (is_in_reach (scene c.args.view.now)) (chain (scene c.args.view.now) c.args.name.now)) (is_in_reach (scene c.args.view.now)) (length c.args.view.now.known) c.loop-met._met c.args.view.now.known c.loop-met.here.now c.loop-met.invariant (search rules)

pub returns-in_default : goal.returns-in_default
returns-in_default c = any-end (list_any (is_in_reach (scene c.args.view.now)) (chain (scene c.args.view.now) c.args.name.now)) (is_in_reach (scene c.args.view.now)) (length c.args.view.now.known) c.loop-met._met c.args.view.now.known c.loop-met.here.now (omega arith) c.loop-met.invariant (search rules) (search rules)

pub loop-met-preserved : goal.loop-met-preserved
loop-met-preserved c = any-on (list_any (is_in_reach (scene c.args.view.now)) (chain (scene c.args.view.now) c.args.name.now)) (is_in_reach (scene c.args.view.now)) (length c.args.view.now.known) c.loop-met._met c.args.view.now.known c.loop-met.here.now c.in-Some.outer.now (omega arith) c.loop-met.invariant (search rules) (search rules)

pub returns : goal.returns
returns c = c.has-2.ensures ∙ ap (is_in_reach (scene c.args.view.now)) c.as_str-2.ensures ∙ any-last (list_any (is_in_reach (scene c.args.view.now)) (chain (scene c.args.view.now) c.args.name.now)) (is_in_reach (scene c.args.view.now)) (length c.args.view.now.known) c.loop-met._met c.args.view.now.known c.loop-met.here.now (omega arith) c.loop-met.invariant
