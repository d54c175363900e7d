use Rattle.code_walk.proofs.WalkLaws.{one_fault}
use Rattle.code_walk.proofs.laws.one_fault.Goals as goal

pub returns : goal.returns
returns c = record { one = one_fault }
