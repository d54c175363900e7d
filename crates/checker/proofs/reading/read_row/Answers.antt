use Rattle.std.proofs.Common.{sym}
use Rattle.std.proofs.lemmas.List.{nil_from_length}
use Rattle.checker.proofs.Steps.{read-over}
use Rattle.checker.proofs.reading.read_row.Goals as goal

pub returns-in_default-split_first-clause-read : goal.returns-in_default-split_first-clause-read
returns-in_default-split_first-clause-read c =
    sym (read-over c.args.env.now c.args.sum c.args.parts.now.items c.pop.new.self.items c.in-Some.part c.args.row c.in-Some.ensures.items (nil_from_length c.in-Some.part.wanted.now c.in_default-split_first.ensures.cases))
