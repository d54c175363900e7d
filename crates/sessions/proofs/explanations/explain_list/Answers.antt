use Rattle.std.proofs.Common.{rules}
use Rattle.std.proofs.lemmas.Result.{IfOk-weaker}
use Rattle.serde_json.specs.View.{view}
use Rattle.sessions.proofs.Explained.{floors_told}
use Rattle.sessions.proofs.explanations.explain_list.Goals as goal

pub returns : goal.returns
returns c = record {
  told = IfOk-weaker c.result_reply.result _ _
      (λ b e. floors_told c.args.cursor.now c.args.id.now c.in_ok-floors.floors (view c.in_ok-value.value) b.items (search rules) (search rules) (search rules) e)
      c.result_reply.ensures.body;
}
