use Rattle.std.proofs.Common.{rules, ◌∙◌}
use Rattle.graphs.proofs.Lists.{free_again}
use Rattle.graphs.proofs.reach.ancestors.Goals as goal

pub returns-clause-free : goal.returns-clause-free
returns-clause-free c = free_again _ c.list_reached-done.new.marks.items c.unmark.new.marks.items c.list_reached-done.new.found.items c.list_reached-done.ensures.listed (c.unmark.ensures.long ∙ c.list_reached-done.ensures.long) (search rules)

pub returns-in_err-done-clause-free : goal.returns-in_err-done-clause-free
returns-in_err-done-clause-free c = free_again _ c.list_reached-done.new.marks.items c.unmark.new.marks.items c.list_reached-done.new.found.items c.list_reached-done.ensures.listed (c.unmark.ensures.long ∙ c.list_reached-done.ensures.long) (search rules)
