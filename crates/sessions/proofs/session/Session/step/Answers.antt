use Rattle.std.proofs.Common.{rules, refl, Some}
use Rattle.serde_json.specs.View.{view}
use Rattle.json_rpc.specs.Messages.{notice, message_of}
use Rattle.sessions.specs.Outcomes.{said_of}
use Rattle.sessions.proofs.Answering.{meets_heard, meets_response, meets_end}
use Rattle.sessions.proofs.session.Session.step.Goals as goal

pub returns-in-Ok-Notice : goal.returns-in-Ok-Notice
returns-in-Ok-Notice g c = record {
  meets = meets_heard c.args.self.now c.notice.new.self c.args.body.now (Some (notice c.as_str-in-Ok-Notice.result.now (view c.in-Ok-Notice.params))) (said_of c.notice.result) _ _
      (search rules) (c.notice.ensures.answered (g.W.World.state c.args.world.now));
}

pub returns-in-Ok-Response : goal.returns-in-Ok-Response
returns-in-Ok-Response g c = record { meets = meets_response c.args.self.now c.args.self.now c.args.body.now _ _ (search rules) refl refl }

pub returns-in-Err-Fault : goal.returns-in-Err-Fault
returns-in-Err-Fault g c = record {
  meets = meets_heard c.args.self.now c.args.self.now c.args.body.now (message_of c.args.body.now) (said_of c.refuse.result) _ _
      refl (c.refuse.ensures.refused c.args.self.now (message_of c.args.body.now) (g.W.World.state c.args.world.now) (search rules));
}

pub returns-in-Err-OutOfMemory : goal.returns-in-Err-OutOfMemory
returns-in-Err-OutOfMemory g c = record { meets = meets_end c.args.self.now c.args.self.now c.args.body.now _ _ refl refl }
