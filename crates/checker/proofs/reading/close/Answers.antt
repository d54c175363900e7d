use Rattle.std.proofs.Common.{◌-◌, ◌∙◌, sym, ap, length, slice_get}
use Rattle.checker.proofs.Steps.{closed-open, closed-bad, closed-on, closed-none}
use Rattle.checker.proofs.reading.close.Goals as goal

pub returns-then-not-is_empty : goal.returns-then-not-is_empty
returns-then-not-is_empty c =
    sym (closed-open c.args.sum c.loop-part.parts.items c.in-Some.part.now (c.in-Some.ensures.value ∙ ap (λ xs. slice_get xs (length xs - 1)) c.as_slice.ensures.value) (sym c.is_empty.ensures ∙ c.if-not-is_empty.true)) ∙ c.loop-part.invariant

pub returns-then-part-sum : goal.returns-then-part-sum
returns-then-part-sum c =
    sym (closed-bad c.args.sum c.loop-part.parts.items c.in-Some.part.now (c.in-Some.ensures.value ∙ ap (λ xs. slice_get xs (length xs - 1)) c.as_slice.ensures.value) (sym c.is_empty.ensures ∙ c.if-not-is_empty.false) c.if-part-sum.true) ∙ c.loop-part.invariant

pub loop-part-preserved : goal.loop-part-preserved
loop-part-preserved c =
    sym (closed-on c.args.sum c.loop-part.parts.items c.pop.new.self.items c.pop.result c.in-Some.part.now c.pop.ensures.items (c.in-Some.ensures.value ∙ ap (λ xs. slice_get xs (length xs - 1)) c.as_slice.ensures.value) (sym c.is_empty.ensures ∙ c.if-not-is_empty.false) c.if-part-sum.false) ∙ c.loop-part.invariant

pub returns : goal.returns
returns c = sym (closed-none c.args.sum c.loop-part.parts.items (c.in_default.ensures.value ∙ ap (λ xs. slice_get xs (length xs - 1)) c.as_slice.ensures.value)) ∙ c.loop-part.invariant
