use Rattle.std.proofs.Common.{rules}
use Rattle.sessions.proofs.Versions.{opens}
use Rattle.sessions.proofs.publications.open_reply.Goals as goal

pub returns-clause-opening : goal.returns-clause-opening
returns-clause-opening c = opens c.args.id.now c.in_ok-reply.reply.items _ (search rules) (search rules)
