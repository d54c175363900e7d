use Rattle.std.proofs.Common.{◌+◌, drop, rules, arith, sym, ◌∙◌, ap, false, [], slice_index_or}
use Rattle.java_units.specs.declared.lexemes.Lexeme.{Lexeme}
use Rattle.java_units.specs.Signs.{seen, sign}
use Rattle.java_units.specs.Pieces.{head_len, sets}
use Rattle.java_units.proofs.Walks.{head_len-hit, head_len-on, head_len-end}
use Rattle.java_units.proofs.pieces.head_len.Goals as goal

pub returns-then-ends-clause-value : goal.returns-then-ends-clause-value
returns-then-ends-clause-value c = head_len-hit c.args.lexemes.now c.loop-i.i c.loop-i.depth _ c.loop-i.set _ (search rules) (sym c.ends.ensures ∙ c.if-ends.true) c.loop-i.invariant.rest

pub loop-i-preserved : goal.loop-i-preserved
loop-i-preserved c =
    let e = head_len-on c.args.lexemes.now c.loop-i.i c.loop-i.depth _ c.loop-i.set _ (search rules) (sym c.ends.ensures ∙ c.if-ends.false) c.loop-i.invariant.rest in
    let nothing : Lexeme = record { word = record { ref_ptr = (0, 0); now = [] }; is_name = false; number = 0; holds = 0 } in
    let more = drop (c.loop-i.i + 1) (seen c.args.lexemes.now) in
    record {
      depth = omega arith;
      rest = e ∙ (ap (λ d. (c.loop-i.i + 1) + head_len d (sets c.loop-i.depth c.loop-i.set (sign (slice_index_or c.args.lexemes.now c.loop-i.i nothing))) more) (sym c.deeper-depth.ensures.value) ∙ ap (λ b. (c.loop-i.i + 1) + head_len c.deeper-depth.result b more) (sym c.sets-set.ensures));
    }

pub returns-clause-value : goal.returns-clause-value
returns-clause-value c =
    let e = head_len-end c.args.lexemes.now c.loop-i.i c.loop-i.depth _ c.loop-i.set (search rules) c.loop-i.invariant.rest in
    omega (arith, e)
