use Rattle.std.proofs.Common.{rules, refl}
use Rattle.serde_json.specs.View.{view}
use Rattle.sessions.specs.Outcomes.{replied_or}
use Rattle.sessions.proofs.Replied.{initialize_started, initialize_refused}
use Rattle.sessions.proofs.session.Session.reply_fresh.Goals as goal

pub returns-in-Ok : goal.returns-in-Ok
returns-in-Ok c = record {
  answered = λ w. initialize_started c.args.self.now c.start.new.self c.args.id.now c.args.method.now (view c.args.params.now) c.in-Ok.options (replied_or c.args.id.now c.start.result) w w
      (search rules) c.in-Ok.ensures.form (c.start.ensures.answered w);
}

pub returns-in-Err : goal.returns-in-Err
returns-in-Err c = record {
  answered = λ w. initialize_refused c.args.self.now c.args.self.now c.args.id.now c.args.method.now (view c.args.params.now) c.in-Err.refused c.refusal_reply.result w w
      (search rules) c.in-Err.ensures.refusal c.refusal_reply.ensures.refusal refl refl;
}
