use Rattle.code_walk.proofs.WalkLaws.{list_or_fault, not_list_and_fault}
use Rattle.code_walk.proofs.laws.list_or_fault.Goals as goal

pub returns : goal.returns
returns c = record { either = list_or_fault; not_both = not_list_and_fault }
