use Rattle.std.proofs.Common.{rules, ◌∙◌, ◌+◌, sym, map, drop}
use Rattle.java_resolve.specs.Found.{all_in}
use Rattle.java_resolve.specs.Trees.{found_view, args_found_view, place_view}
use Rattle.java_resolve.proofs.Gathering.{places_long, gather_step, gather_end, cat_nothing}
use Rattle.java_resolve.proofs.heads.all_found.Goals as goal

pub returns-then-places-args : goal.returns-then-places-args
returns-then-places-args c = record { value = places_long c.args.env.now c.args.crowded c.args.places.now c.args.args.now c.if-places-args.true }

pub returns-then-is_nothing : goal.returns-then-is_nothing
returns-then-is_nothing c = record {
  value =
      cat_nothing (args_found_view c.in_ok-all.all) (all_in c.args.env.now c.args.crowded (map place_view (drop (c.loop-i.i + 1) c.args.places.now)) (drop (c.loop-i.i + 1) c.args.args.now)) (sym c.is_nothing.ensures ∙ c.if-is_nothing.true)
      ∙ gather_step c.args.env.now c.args.crowded c.args.places.now c.args.args.now c.loop-i.i c.index-places-i.result c.index-args-i.result (args_found_view c.loop-i.all) (args_found_view c.in_ok-all.all) (found_view c.in_ok-found.found) (search rules) c.loop-i.invariant.long c.index-places-i.is c.index-args-i.is c.in_ok-found.ensures.value c.in_ok-all.ensures.value c.loop-i.invariant.rest;
}

pub loop-i-preserved : goal.loop-i-preserved
loop-i-preserved c = record {
  long = c.loop-i.invariant.long;
  rest = gather_step c.args.env.now c.args.crowded c.args.places.now c.args.args.now c.loop-i.i c.index-places-i.result c.index-args-i.result (args_found_view c.loop-i.all) (args_found_view c.in_ok-all.all) (found_view c.in_ok-found.found) (search rules) c.loop-i.invariant.long c.index-places-i.is c.index-args-i.is c.in_ok-found.ensures.value c.in_ok-all.ensures.value c.loop-i.invariant.rest;
}

pub returns : goal.returns
returns c = record { value = gather_end c.args.env.now c.args.crowded c.args.places.now c.args.args.now c.loop-i.i (args_found_view c.loop-i.all) (search rules) c.loop-i.invariant.long c.loop-i.invariant.rest }
