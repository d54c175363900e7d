use Rattle.usage_counts.proofs.file_tallies.one_walk.Goals as goal

pub returns : goal.returns
returns c = record { one_list = c.one_list.ensures.one; one_fault = c.one_fault.ensures.one; not_both = c.list_or_fault.ensures.not_both }
