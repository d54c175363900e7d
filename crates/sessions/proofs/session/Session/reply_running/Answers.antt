use Rattle.std.proofs.Common.{rules}
use Rattle.serde_json.specs.View.{view}
use Rattle.sessions.specs.Outcomes.{replied_or}
use Rattle.sessions.proofs.Commanded.{by_completion, by_command, by_shutdown, by_initialize, by_none}
use Rattle.sessions.proofs.session.Session.reply_running.Goals as goal

pub returns-then-eq : goal.returns-then-eq
returns-then-eq g c = record {
  answered = by_completion c.args.self.now c.complete.new.self c.args.id.now c.args.method.now (view c.args.params.now) (replied_or c.args.id.now c.complete.result)
      (g.W.World.state c.args.world.now) (g.W.World.state c.complete.new.world) (search rules) c.complete.ensures.answered;
}

pub returns-then-eq-2 : goal.returns-then-eq-2
returns-then-eq-2 g c = record {
  answered = by_command c.args.self.now c.command.new.self c.args.id.now c.args.method.now (view c.args.params.now) (replied_or c.args.id.now c.command.result)
      (g.W.World.state c.args.world.now) (g.W.World.state c.command.new.world) (search rules) (search rules) c.command.ensures.answered;
}

pub returns-then-eq-3 : goal.returns-then-eq-3
returns-then-eq-3 g c = record {
  answered = by_shutdown c.args.self.now c.stop.new.self c.args.id.now c.args.method.now (view c.args.params.now) (replied_or c.args.id.now c.stop.result)
      (g.W.World.state c.args.world.now) (g.W.World.state c.args.world.now) (search rules) (search rules) (search rules) c.stop.ensures.answered (search rules);
}

pub returns-then-eq-4 : goal.returns-then-eq-4
returns-then-eq-4 g c = record {
  answered = by_initialize c.args.self.now _ c.args.id.now c.args.method.now (view c.args.params.now) c.failure_reply.result
      (g.W.World.state c.args.world.now) (g.W.World.state c.args.world.now) (search rules) (search rules) (search rules) (search rules) c.failure_reply.ensures.body (search rules) (search rules);
}

pub returns : goal.returns
returns g c = record {
  answered = by_none c.args.self.now _ c.args.id.now c.args.method.now (view c.args.params.now) c.failure_reply-2.result
      (g.W.World.state c.args.world.now) (g.W.World.state c.args.world.now) (search rules) (search rules) (search rules) (search rules) c.failure_reply-2.ensures.body (search rules) (search rules);
}
