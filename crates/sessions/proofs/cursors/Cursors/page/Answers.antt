use Rattle.std.proofs.Common.{rules, refl}
use Rattle.sessions.proofs.KeptCursors.{look_nowhere}
use Rattle.sessions.proofs.Asked.{missing_by}
use Rattle.sessions.proofs.cursors.Cursors.page.Goals as goal

pub returns-in-None-clause-answers : goal.returns-in-None-clause-answers
returns-in-None-clause-answers g c =
    missing_by c.args.self.now c.args.id.now c.args.number c.args.count c.failure_reply.result _ _ (look_nowhere c.args.number c.args.self.now.cursors (search rules)) refl c.failure_reply.ensures.body
