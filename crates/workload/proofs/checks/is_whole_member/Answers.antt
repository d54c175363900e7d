use Rattle.workload.proofs.WholeLaws.{whole_is}
use Rattle.workload.proofs.checks.is_whole_member.Goals as goal

pub returns-in-Some-descriptor : goal.returns-in-Some-descriptor
returns-in-Some-descriptor c = whole_is c.args.kind c.args.member.now _ _ c.is_descriptor.result c.in-Some.is c.in-Some-descriptor.is c.is_descriptor.ensures
