use Rattle.std.proofs.Common.{sym}
use Rattle.type_names.proofs.ParamLaws.{more, shorter, end_only, refused}
use Rattle.type_names.proofs.MethodLaws.{utf8_after}
use Rattle.type_names.proofs.methods.params_at.Goals as goal

pub returns-in-Some-clause-only : goal.returns-in-Some-clause-only
returns-in-Some-clause-only c = λ kinds tail all is. end_only _ _ _ _ (sym c.in-Some.ensures) c.loop-after.invariant.1 kinds tail all is

pub loop-after-smaller : goal.loop-after-smaller
loop-after-smaller c = shorter _ _ _ (sym (rw c.in-Ok-Some.field-0-is at c.in-Ok-Some.ensures))

pub loop-after-preserved : goal.loop-after-preserved
loop-after-preserved c =
    let read = sym (rw c.in-Ok-Some.field-0-is at c.in-Ok-Some.ensures) in
    (utf8_after _ _ _ c.loop-after.invariant.0 read, rw c.in_ok-push-in-Ok-Some.ensures.ok (more _ _ _ _ _ read c.loop-after.invariant.1))

pub returns-in-Ok-None-clause-only : goal.returns-in-Ok-None-clause-only
returns-in-Ok-None-clause-only c = λ kinds tail all is. absurd (refused _ _ _ (sym c.in_default.ensures) (sym (rw c.in-Ok-None.field-0-is at c.in-Ok-None.ensures)) c.loop-after.invariant.1 kinds tail all is)
