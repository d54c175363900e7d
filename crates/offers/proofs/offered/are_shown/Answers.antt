use Rattle.std.proofs.Common.{◌∙◌, ap, arith, rules, length, List, ℕ}
use Rattle.std.specs.List.{list_all}
use Rattle.known_classes.specs.Known.{class_named}
use Rattle.offers.specs.Scenes.{is_open}
use Rattle.offers.specs.Reach.{access_of, chain}
use Rattle.offers.specs.Views.{scene}
use Rattle.offers.proofs.Chains.{all-no, all-end, all-on, all-last}
use Rattle.offers.proofs.offered.are_shown.Goals as goal

pub returns-then-not-is_shown : goal.returns-then-not-is_shown
returns-then-not-is_shown c = all-no (list_all (λ (x : List ℕ). is_open (scene c.args.view.now) x (access_of (class_named c.args.view.now.known x))) (chain (scene c.args.view.now) c.args.name.now)) (λ (x : List ℕ). is_open (scene c.args.view.now) x (access_of (class_named c.args.view.now.known x))) (length c.args.view.now.known) c.loop-met._met c.args.view.now.known c.loop-met.here.now c.loop-met.invariant (search rules)

pub returns-in_default : goal.returns-in_default
returns-in_default c = all-end (list_all (λ (x : List ℕ). is_open (scene c.args.view.now) x (access_of (class_named c.args.view.now.known x))) (chain (scene c.args.view.now) c.args.name.now)) (λ (x : List ℕ). is_open (scene c.args.view.now) x (access_of (class_named c.args.view.now.known x))) (length c.args.view.now.known) c.loop-met._met c.args.view.now.known c.loop-met.here.now (omega arith) c.loop-met.invariant (search rules) (search rules)

pub loop-met-preserved : goal.loop-met-preserved
loop-met-preserved c = all-on (list_all (λ (x : List ℕ). is_open (scene c.args.view.now) x (access_of (class_named c.args.view.now.known x))) (chain (scene c.args.view.now) c.args.name.now)) (λ (x : List ℕ). is_open (scene c.args.view.now) x (access_of (class_named c.args.view.now.known x))) (length c.args.view.now.known) c.loop-met._met c.args.view.now.known c.loop-met.here.now c.in-Some.outer.now (omega arith) c.loop-met.invariant (search rules) (search rules)

pub returns : goal.returns
returns c = c.is_shown-2.ensures ∙ ap (λ (x : List ℕ). is_open (scene c.args.view.now) x (access_of (class_named c.args.view.now.known x))) c.as_str-2.ensures ∙ all-last (list_all (λ (x : List ℕ). is_open (scene c.args.view.now) x (access_of (class_named c.args.view.now.known x))) (chain (scene c.args.view.now) c.args.name.now)) (λ (x : List ℕ). is_open (scene c.args.view.now) x (access_of (class_named c.args.view.now.known x))) (length c.args.view.now.known) c.loop-met._met c.args.view.now.known c.loop-met.here.now (omega arith) c.loop-met.invariant
