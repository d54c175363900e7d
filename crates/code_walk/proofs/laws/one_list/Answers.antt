use Rattle.code_walk.proofs.WalkLaws.{one_list}
use Rattle.code_walk.proofs.laws.one_list.Goals as goal

pub returns : goal.returns
returns c = record { one = one_list }
