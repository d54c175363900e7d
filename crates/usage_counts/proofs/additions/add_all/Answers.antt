use Rattle.std.proofs.Common.{◌∙◌, subst, sym}
use Rattle.usage_counts.specs.Counts.{AreUsed}
use Rattle.usage_counts.proofs.AddedLaws.{used-after, all-used, both-steps}
use Rattle.usage_counts.proofs.additions.add_all.Goals as goal

pub returns-in-Ok-clause-added : goal.returns-in-Ok-clause-added
returns-in-Ok-clause-added c = both-steps c.args.uses.now c.place_all.new.uses c.add_each.new.uses c.args.tallies.now c.in-Ok.ensures.placed c.add_each.ensures

pub returns-in-Ok-clause-used : goal.returns-in-Ok-clause-used
returns-in-Ok-clause-used c = used-after c.args.uses.now c.add_each.new.uses c.args.tallies.now c.requires c.len.ensures.ordered (both-steps c.args.uses.now c.place_all.new.uses c.add_each.new.uses c.args.tallies.now c.in-Ok.ensures.placed c.add_each.ensures)

pub returns-in-Err-clause-unchanged : goal.returns-in-Err-clause-unchanged
returns-in-Err-clause-unchanged c = c.keep_used.ensures ∙ c.in-Err.ensures.used ∙ all-used c.args.uses.now.entries c.requires

pub returns-in-Err-clause-used : goal.returns-in-Err-clause-used
returns-in-Err-clause-used c = subst AreUsed (sym (c.keep_used.ensures ∙ c.in-Err.ensures.used ∙ all-used c.args.uses.now.entries c.requires)) c.requires
