use Rattle.std.proofs.Common.{◌∙◌, ◌≤◌, sym, ap, subst, arith, length, IfSome}
use Rattle.std.specs.Prelude.{◌==◌}
use Rattle.checker.specs.OpenParts.{frames_of, walk_if}
use Rattle.checker.proofs.Steps.{rows-end, rows-off, rows-on, sum-none, sum-some}
use Rattle.checker.proofs.reading.read_rows.Goals as goal

pub returns-in-None-clause-read : goal.returns-in-None-clause-read
returns-in-None-clause-read c =
    sym (c.loop-row.invariant.same ∙ rows-off c.args.env.now c.loop-row.sum (frames_of c.loop-row.parts.items) c.args.rows.now c.loop-row.row-index _ (omega arith)
    (sym c.in_ok-reached.ensures.read ∙ ap (λ o. walk_if o c.read_row.new.parts.items) c.in-None.is))

pub loop-row-preserved : goal.loop-row-preserved
loop-row-preserved c = record {
  low = subst (λ o. IfSome o (λ w. w ≤ c.args.env.now.limit)) c.in-Some.is c.in_ok-reached.ensures.within;
  same = c.loop-row.invariant.same ∙ rows-on c.args.env.now c.loop-row.sum c.in-Some.reached (frames_of c.loop-row.parts.items) (frames_of c.read_row.new.parts.items) c.args.rows.now c.loop-row.row-index _ (omega arith)
      (sym c.in_ok-reached.ensures.read ∙ ap (λ o. walk_if o c.read_row.new.parts.items) c.in-Some.is);
}

pub returns-then-is_empty-clause-read : goal.returns-then-is_empty-clause-read
returns-then-is_empty-clause-read c =
    sym (c.loop-row.invariant.same ∙ rows-end c.args.env.now c.loop-row.sum (frames_of c.loop-row.parts.items) c.args.rows.now c.loop-row.row-index (omega arith)
    ∙ sum-none c.loop-row.sum c.loop-row.parts.items (ap (λ xs. length xs == 0) (sym c.as_slice.ensures.value) ∙ sym c.is_empty.ensures ∙ c.if-is_empty.true))

pub returns-clause-read : goal.returns-clause-read
returns-clause-read c =
    sym (c.loop-row.invariant.same ∙ rows-end c.args.env.now c.loop-row.sum (frames_of c.loop-row.parts.items) c.args.rows.now c.loop-row.row-index (omega arith)
    ∙ sum-some c.loop-row.sum c.loop-row.parts.items (ap (λ xs. length xs == 0) (sym c.as_slice.ensures.value) ∙ sym c.is_empty.ensures ∙ c.if-is_empty.false))
