use Rattle.std.proofs.Common.{rules, ◌∙◌, ap, sym, ◌+◌, ◌&&◌, drop}
use Rattle.java_resolve.specs.Lambdas.{are_variables}
use Rattle.java_resolve.proofs.LambdaRows.{variables_step, variables_end}
use Rattle.java_resolve.proofs.lambdas.are_variables.Goals as goal

pub returns-then-not-is_next : goal.returns-then-not-is_next
returns-then-not-is_next c = record {
  value =
      let g = c.args.parts.now in
      let ws = c.args.words.now in
      let i = c.loop-word.word-index in
      sym (ap (λ x. x && are_variables g (c.loop-word.number + 1) (drop (i + 1) ws)) c.if-not-is_next.true)
      ∙ variables_step g (are_variables g c.args.from ws) i c.loop-word.number ws c.word-item.result c.in_ok-is_next.is_next (search rules) c.word-item.is c.in_ok-is_next.ensures.value c.loop-word.invariant;
}

pub loop-word-preserved : goal.loop-word-preserved
loop-word-preserved c =
    let g = c.args.parts.now in
    let ws = c.args.words.now in
    let i = c.loop-word.word-index in
    ap (λ m. are_variables g m (drop (i + 1) ws)) c.in_ok-number.ensures
    ∙ sym (ap (λ x. x && are_variables g (c.loop-word.number + 1) (drop (i + 1) ws)) c.if-not-is_next.false)
    ∙ variables_step g (are_variables g c.args.from ws) i c.loop-word.number ws c.word-item.result c.in_ok-is_next.is_next (search rules) c.word-item.is c.in_ok-is_next.ensures.value c.loop-word.invariant

pub returns : goal.returns
returns c = record { value = variables_end c.args.parts.now (are_variables c.args.parts.now c.args.from c.args.words.now) c.loop-word.word-index c.loop-word.number c.args.words.now (search rules) c.loop-word.invariant }
