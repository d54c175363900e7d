use Rattle.std.proofs.Common.{rules, ◌∙◌, ◌+◌, sym, map, drop}
use Rattle.java_resolve.specs.Found.{suits, pick}
use Rattle.java_resolve.specs.Trees.{found_view, entry_view}
use Rattle.java_resolve.proofs.Gathering.{pick_step, pick_end, two_joined}
use Rattle.java_resolve.proofs.found.pick.Goals as goal

pub loop-entry-preserved : goal.loop-entry-preserved
loop-entry-preserved c = pick_step (suits c.args.env.now c.args.crowded c.args.cast.now c.args.wanted) c.args.entries.now c.loop-entry.entry-index c.entry-item.result (found_view c.loop-entry.found) (found_view c.in_ok-found.found) (search rules) c.entry-item.is c.in_ok-found.ensures.joined c.loop-entry.invariant

pub returns-then-is_two : goal.returns-then-is_two
returns-then-is_two c =
    let p = suits c.args.env.now c.args.crowded c.args.cast.now c.args.wanted in
    record {
      value =
          two_joined (found_view c.in_ok-found.found) (pick p (map entry_view (drop (c.loop-entry.entry-index + 1) c.args.entries.now))) (sym c.is_two.ensures ∙ c.if-is_two.true)
          ∙ pick_step p c.args.entries.now c.loop-entry.entry-index c.entry-item.result (found_view c.loop-entry.found) (found_view c.in_ok-found.found) (search rules) c.entry-item.is c.in_ok-found.ensures.joined c.loop-entry.invariant;
    }

pub returns : goal.returns
returns c = record { value = pick_end (suits c.args.env.now c.args.crowded c.args.cast.now c.args.wanted) c.args.entries.now c.loop-entry.entry-index (found_view c.loop-entry.found) (search rules) c.loop-entry.invariant }
