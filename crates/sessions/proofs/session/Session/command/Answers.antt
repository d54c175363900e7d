use Rattle.std.proofs.Common.{rules}
use Rattle.serde_json.specs.View.{view}
use Rattle.sessions.proofs.Ranged.{fair_count, fair_weights}
use Rattle.sessions.proofs.Replied.{command_refused}
use Rattle.sessions.proofs.Commanded.{pages, closes, explains, publishes_so, withdraws_so, sets_so}
use Rattle.sessions.proofs.session.Session.command.Goals as goal

pub page-requires : goal.page-requires
page-requires g c = record { count = fair_count (view c.args.params.now) c.in-Ok-Page.cursor c.in-Ok-Page.count (search rules) }

pub returns-in-Ok-Page : goal.returns-in-Ok-Page
returns-in-Ok-Page g c = record {
  answered = pages c.args.self.now _ c.args.id.now (view c.args.params.now) c.in-Ok-Page.cursor c.in-Ok-Page.count c.self.inside.cursors c.page.new.self c.page.result
      (g.W.World.state c.args.world.now) (g.W.World.state c.page.new.world)
      (search rules) (search rules) c.page.ensures.answers c.page.ensures.unchanged c.page.ensures.no_memory (search rules);
}

pub returns-in-Ok-Close : goal.returns-in-Ok-Close
returns-in-Ok-Close g c = record {
  answered = closes c.args.self.now _ c.args.id.now (view c.args.params.now) c.in-Ok-Close.cursor c.self.inside.cursors c.shut.new.self c.shut.result (g.W.World.state c.args.world.now)
      (search rules) (search rules) c.shut.ensures.answers c.shut.ensures.unchanged (search rules);
}

pub returns-in-Ok-Explain : goal.returns-in-Ok-Explain
returns-in-Ok-Explain g c = record {
  answered = explains c.args.self.now _ c.args.id.now (view c.args.params.now) c.in-Ok-Explain.cursor c.in-Ok-Explain.item c.self.inside.cursors c.explain.result
      (g.W.World.state c.args.world.now) (g.W.World.state c.explain.new.world)
      (search rules) (search rules) c.explain.ensures.answers c.explain.ensures.same (search rules);
}

pub returns-in-Ok-Publish : goal.returns-in-Ok-Publish
returns-in-Ok-Publish g c = record {
  answered = publishes_so c.args.self.now _ c.args.id.now (view c.args.params.now) c.in-Ok-Publish.puts c.in-Ok-Publish.removes c.in-Ok-Publish.counts c.in-Ok-Publish.sources c.in-Ok-Publish.known c.publish.result
      (g.W.World.state c.args.world.now) (g.W.World.state c.publish.new.world) (search rules) c.publish.ensures.answered (search rules);
}

pub returns-in-Ok-Withdraw : goal.returns-in-Ok-Withdraw
returns-in-Ok-Withdraw g c = record {
  answered = withdraws_so c.args.self.now _ c.args.id.now (view c.args.params.now) c.in-Ok-Withdraw.through c.make_change.result
      (g.W.World.state c.args.world.now) (g.W.World.state c.make_change.new.world) (search rules) c.make_change.ensures.changed c.make_change.ensures.no_memory (search rules);
}

pub make_change-requires-in-Ok-SetWeights : goal.make_change-requires-in-Ok-SetWeights
make_change-requires-in-Ok-SetWeights g c = record { ranges = fair_weights (view c.args.params.now) c.in-Ok-SetWeights.weights (search rules) }

pub returns-in-Ok-SetWeights : goal.returns-in-Ok-SetWeights
returns-in-Ok-SetWeights g c = record {
  answered = sets_so c.args.self.now _ c.args.id.now (view c.args.params.now) c.in-Ok-SetWeights.weights c.make_change-in-Ok-SetWeights.result
      (g.W.World.state c.args.world.now) (g.W.World.state c.make_change-in-Ok-SetWeights.new.world) (search rules) c.make_change-in-Ok-SetWeights.ensures.changed c.make_change-in-Ok-SetWeights.ensures.no_memory (search rules);
}

pub returns-in-Err : goal.returns-in-Err
returns-in-Err g c = record {
  answered = command_refused c.args.self.now _ c.args.id.now (view c.args.params.now) c.in-Err.refused c.refusal_reply.result _ _
      (search rules) c.refusal_reply.ensures.refusal (search rules) (search rules);
}
