use Rattle.std.proofs.Common.{rules, refl}
use Rattle.sessions.proofs.KeptCursors.{look_nowhere}
use Rattle.sessions.proofs.Explained.{not_kept_by}
use Rattle.sessions.proofs.cursors.Cursors.explain.Goals as goal

pub returns-in-None-clause-answers : goal.returns-in-None-clause-answers
returns-in-None-clause-answers g c =
    not_kept_by c.args.self.now c.args.id.now c.args.number c.args.item c.failure_reply.result _ _ (look_nowhere c.args.number c.args.self.now.cursors (search rules)) c.failure_reply.ensures.body refl
