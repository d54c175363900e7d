use Rattle.std.proofs.Common.{rules}
use Rattle.serde_json.specs.View.{view}
use Rattle.answers.specs.Messages.{silent}
use Rattle.sessions.specs.Outcomes.{silent_or}
use Rattle.sessions.proofs.Noticed.{by_open, by_change, by_close, by_none}
use Rattle.sessions.proofs.session.Session.edit.Goals as goal

pub returns-then-eq : goal.returns-then-eq
returns-then-eq c = record {
  answered = λ w. by_open c.args.self.now c.open.new.self c.args.method.now (view c.args.params.now) (silent_or c.open.result) w
      (search rules) c.open.ensures.answered;
}

pub returns-then-eq-2 : goal.returns-then-eq-2
returns-then-eq-2 c = record {
  answered = λ w. by_change c.args.self.now c.change.new.self c.args.method.now (view c.args.params.now) silent w
      (search rules) (search rules) c.change.ensures.answered;
}

pub returns-then-eq-3 : goal.returns-then-eq-3
returns-then-eq-3 c = record {
  answered = λ w. by_close c.args.self.now c.close.new.self c.args.method.now (view c.args.params.now) silent w
      (search rules) (search rules) (search rules) c.close.ensures.answered;
}

pub returns-else-eq-3 : goal.returns-else-eq-3
returns-else-eq-3 c = record {
  answered = λ w. by_none c.args.self.now c.args.self.now c.args.method.now (view c.args.params.now) w
      (search rules) (search rules) (search rules) (search rules);
}
