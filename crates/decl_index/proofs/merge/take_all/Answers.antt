use Rattle.std.proofs.Common.{rules, ◌≡◌, map}
use Rattle.std.specs.Arc.{arc_value}
use Rattle.std.specs.BTreeSet.{contains_text}
use Rattle.decl_index.specs.Merging.{others}
use Rattle.decl_index.proofs.Merges.{others-leaves}
use Rattle.decl_index.proofs.merge.take_all.Goals as goal

pub returns : goal.returns
returns c =
    let left : map arc_value c.in_ok-all.all.items ≡ others (contains_text c.in_ok-set.set) (map arc_value c.args.classes.now.items) = search rules in
    others-leaves (contains_text c.in_ok-set.set) c.args.names.now (map arc_value c.args.classes.now.items) (map arc_value c.in_ok-all.all.items) c.in_ok-set.ensures c.requires left
