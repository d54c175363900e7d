use Rattle.std.proofs.Common.{rules, ◌≡◌, ◌++◌, ◌∷◌, [], true, false}
use Rattle.std.specs.Arc.{arc_value}
use Rattle.std.specs.BTreeSet.{contains_text}
use Rattle.decl_index.proofs.Merges.{others-skip, others-keep, pushed}
use Rattle.decl_index.proofs.merge.without.Goals as goal

pub loop-class-preserved-then-contains : goal.loop-class-preserved-then-contains
loop-class-preserved-then-contains c =
    let passes : contains_text c.args.names.now (arc_value c.class-item.result).name ≡ true = search rules in
    others-skip arc_value (contains_text c.args.names.now) c.args.classes.now c.loop-class.class-index c.class-item.result _ (search rules) c.class-item.is passes c.loop-class.invariant

pub loop-class-preserved : goal.loop-class-preserved
loop-class-preserved c =
    let passes : contains_text c.args.names.now (arc_value c.class-item.result).name ≡ false = search rules in
    let clone : arc_value c.in_ok-try_clone.field-0 ≡ arc_value c.class-item.result = search rules in
    let grown : c.push.new.self.items ≡ c.loop-class.all.items ++ c.in_ok-try_clone.field-0 ∷ [] = search rules in
    others-keep arc_value (contains_text c.args.names.now) c.args.classes.now c.loop-class.class-index c.class-item.result _ _ (search rules) c.class-item.is passes c.loop-class.invariant (pushed arc_value c.loop-class.all.items c.push.new.self.items c.in_ok-try_clone.field-0 (arc_value c.class-item.result) grown clone)
