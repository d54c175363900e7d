use Rattle.std.proofs.Common.{rules}
use Rattle.sessions.proofs.Faulted.{fault_told, fault_in_vain}
use Rattle.sessions.proofs.session.refuse.Goals as goal

pub returns-in-Ok : goal.returns-in-Ok
returns-in-Ok c = record { refused = λ s h w is. fault_told s h c.args.fault c.failure_at-failure.result c.in-Ok.reply.items w is c.failure_at-failure.ensures.no_json c.failure_at-failure.ensures.no_message (search rules) }

pub returns-in-Some : goal.returns-in-Some
returns-in-Some c = record { refused = λ s h w is. fault_in_vain s h c.args.fault c.failure_at-failure.result c.in-Some.id w is c.failure_at-failure.ensures.no_json c.failure_at-failure.ensures.no_message (search rules) }
