use Rattle.std.proofs.Common.{rules}
use Rattle.std.proofs.lemmas.Result.{IfOk-weaker}
use Rattle.serde_json.specs.View.{view}
use Rattle.sessions.proofs.Explained.{rows_told}
use Rattle.sessions.proofs.explanations.rows_reply.Goals as goal

pub returns : goal.returns
returns c = record {
  body = IfOk-weaker c.result_reply.result _ _
      (λ b e. rows_told c.args.env.now c.args.id.now c.args.item.now (view c.in_ok-value.value) c.in_ok-rows.rows b.items (search rules) (search rules) c.requires.says e)
      c.result_reply.ensures.body;
}
