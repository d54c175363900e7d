use Rattle.std.proofs.Common.{rules}
use Rattle.serde_json.specs.View.{view}
use Rattle.sessions.proofs.Noticed.{changes, loses}
use Rattle.sessions.proofs.session.Session.change.Goals as goal

pub returns-in-Ok : goal.returns-in-Ok
returns-in-Ok c = record {
  answered = λ w. changes c.args.self.now _ (view c.args.params.now) c.in-Ok.form c.as_str.result.now c.self.inside.documents c.change.new.self w
      (search rules) (search rules) (search rules) c.change.ensures.changed (search rules);
}

pub returns-in-Err-OutOfMemory : goal.returns-in-Err-OutOfMemory
returns-in-Err-OutOfMemory c = record {
  answered = λ w. loses c.args.self.now _ (view c.args.params.now) c.in-Some.uri.now c.self.inside.documents c.lose.new.self w
      (search rules) (search rules) c.lose.ensures.lost (search rules);
}
