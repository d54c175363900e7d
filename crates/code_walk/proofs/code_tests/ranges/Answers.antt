use Rattle.code_walk.proofs.code_tests.ranges.Goals as goal

pub codes-requires-clause-layout : goal.codes-requires-clause-layout
codes-requires-clause-layout g c = let f = c.in-Ok.ensures.found in (f.head, f.body, f.is_file)
