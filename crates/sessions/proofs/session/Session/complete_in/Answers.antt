use Rattle.std.proofs.Common.{rules}
use Rattle.sessions.proofs.Completed.{closed, unsure, lost, past, placed}
use Rattle.sessions.proofs.session.Session.complete_in.Goals as goal

pub returns-in-None : goal.returns-in-None
returns-in-None g c = record {
  answered = closed c.args.self.now _ c.args.id.now c.args.form.now c.fault_reply.result _ _
      (search rules) c.fault_reply.ensures.body (search rules) (search rules);
}

pub returns-in-Some-Unsure : goal.returns-in-Some-Unsure
returns-in-Some-Unsure g c = record {
  answered = unsure c.args.self.now _ c.args.id.now c.args.form.now c.fault_reply-in-Some-Unsure.result _ _
      (search rules) c.fault_reply-in-Some-Unsure.ensures.body (search rules) (search rules);
}

pub returns-in-Some-NoMemory : goal.returns-in-Some-NoMemory
returns-in-Some-NoMemory g c = record {
  answered = lost c.args.self.now _ c.args.id.now c.args.form.now _ _ _
      (search rules) (search rules) (search rules);
}

pub returns-in-None-offset : goal.returns-in-None-offset
returns-in-None-offset g c = record {
  answered = past c.args.self.now _ c.args.id.now c.args.form.now c.in-Some-Sure.document c.fault_reply-in-None-offset.result _ _
      (search rules) (search rules) c.fault_reply-in-None-offset.ensures.body (search rules) (search rules);
}

pub returns-in-Some : goal.returns-in-Some
returns-in-Some g c = record {
  answered = placed c.args.self.now _ c.args.id.now c.args.form.now c.in-Some-Sure.document c.in-Some.place c.self.inside.options c.self.inside.cursors c.complete.new.self c.complete.result
      (g.W.World.state c.args.world.now) (g.W.World.state c.complete.new.world)
      (search rules) (search rules) (search rules) (search rules) c.complete.ensures.answers c.complete.ensures.unchanged c.complete.ensures.no_memory (search rules);
}
