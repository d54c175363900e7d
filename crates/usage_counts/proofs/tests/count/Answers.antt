use Rattle.usage_counts.proofs.tests.count.Goals as goal

pub count_file-requires-clause-class : goal.count_file-requires-clause-class
count_file-requires-clause-class g c = (_, c.in-Ok.ensures.found)
