use Rattle.code_walk.proofs.JoinLaws.{of_lists}
use Rattle.code_walk.specs.CodeReading.{method_ranges}
use Rattle.code_walk.proofs.code_attribute.all_ranges.Goals as goal

pub returns : goal.returns
returns c = of_lists (λ v. v.items) _ (method_ranges c.args.pool.now.entries) _ c.joined_ranges.ensures
