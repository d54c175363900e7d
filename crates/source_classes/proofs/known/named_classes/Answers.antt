use Rattle.std.proofs.Common.{◌≡◌, ◌∙◌, ap, rules, map, take_all}
use Rattle.std.specs.BTreeSet.{contains_text}
use Rattle.source_classes.specs.KnownNames.{named_class}
use Rattle.source_classes.proofs.NamedOnes.{named_among}
use Rattle.source_classes.proofs.known.named_classes.Goals as goal

pub returns : goal.returns
returns c = c.loop-name.invariant ∙ ap (map (named_class (contains_text c.in_ok-set.set))) (take_all c.loop-name.name-index c.args.names.now (search rules)) ∙ named_among _ _ c.args.names.now c.in_ok-set.ensures
