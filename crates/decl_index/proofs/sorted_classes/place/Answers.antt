use Rattle.std.proofs.Common.{rules, map}
use Rattle.std.specs.Arc.{arc_value}
use Rattle.std.proofs.lemmas.List.{length-map}
use Rattle.decl_index.proofs.Places.{mapped, below_next, above_at}
use Rattle.decl_index.proofs.sorted_classes.place.Goals as goal

pub loop-low-preserved-then-eq : goal.loop-low-preserved-then-eq
loop-low-preserved-then-eq c = record {
  ordered = search rules;
  within = c.loop-low.invariant.within;
  below = below_next (map arc_value c.args.classes.now) _ (arc_value c.index-classes-middle.result) c.args.name.now c.requires (search (rules, length-map)) (mapped arc_value c.args.classes.now _ c.index-classes-middle.result (search rules) c.index-classes-middle.is) (search rules);
  above = c.loop-low.invariant.above;
}

pub loop-low-preserved : goal.loop-low-preserved
loop-low-preserved c = record {
  ordered = search rules;
  within = search rules;
  below = c.loop-low.invariant.below;
  above = above_at (map arc_value c.args.classes.now) _ (arc_value c.index-classes-middle.result) c.args.name.now c.requires (search (rules, length-map)) (mapped arc_value c.args.classes.now _ c.index-classes-middle.result (search rules) c.index-classes-middle.is) (search rules);
}
