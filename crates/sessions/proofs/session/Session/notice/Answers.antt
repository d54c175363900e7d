use Rattle.std.proofs.Common.{rules, ◌≡◌, subst, sym}
use Rattle.serde_json.specs.View.{view}
use Rattle.answers.specs.Messages.{Outcome, lost, running_notice}
use Rattle.sessions.specs.Outcomes.{said_of}
use Rattle.sessions.specs.Meets.{Answered}
use Rattle.sessions.proofs.Noticed.{by_running}
use Rattle.sessions.proofs.session.Session.notice.Goals as goal

pub returns-in_err-edit-in-Running : goal.returns-in_err-edit-in-Running
returns-in_err-edit-in-Running c =
    let is : said_of c.from_residual.result ≡ lost = search rules in
    record {
      answered = λ w. by_running c.args.self.now c.edit.new.self c.args.method.now (view c.args.params.now) (said_of c.from_residual.result) w (search rules) (search rules)
          (λ v. subst (λ (o : Outcome). Answered c.args.self.now (running_notice c.args.self.now c.args.method.now (view c.args.params.now)) c.edit.new.self o v v) (sym is) (c.in_err-edit-in-Running.ensures.answered v));
    }
