use Rattle.std.proofs.Common.{rules}
use Rattle.serde_json.specs.View.{view}
use Rattle.sessions.proofs.Noticed.{opens}
use Rattle.sessions.proofs.session.Session.open.Goals as goal

pub returns : goal.returns
returns c = record {
  answered = λ w. opens c.args.self.now _ (view c.args.params.now) c.in-Some.uri.now c.in-Some-text_in.text.now c.open.result c.self.inside.documents c.open.new.self w
      (search rules) (search rules) (search rules) c.open.ensures.opened c.open.ensures.unchanged (search rules);
}
