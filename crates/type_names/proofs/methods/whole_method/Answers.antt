use Rattle.std.proofs.Common.{sym}
use Rattle.type_names.proofs.MethodLaws.{method_is, method_none, no_pair}
use Rattle.type_names.proofs.methods.whole_method.Goals as goal

pub returns-in-Ok-None : goal.returns-in-Ok-None
returns-in-Ok-None c = sym (method_none c.args.text.now c.in-Some.inner.now (sym c.in-Some.ensures) (λ kinds tail all is. no_pair _ (rw c.in-Ok-None.field-0-is at (c.in-Ok-None.ensures.only kinds tail all is))))

pub returns-in-Some-2 : goal.returns-in-Some-2
returns-in-Some-2 c =
    let found = rw c.in-Ok-Some.field-0-is at c.in-Ok-Some.ensures.found in
    sym (method_is c.args.text.now c.in-Some.inner.now _ _ _ (sym c.in-Some.ensures) found.0 found.1 (sym (rw c.in-Some-2.is at c.in_ok-result.ensures)))

pub returns-in-None : goal.returns-in-None
returns-in-None c =
    let found = rw c.in-Ok-Some.field-0-is at c.in-Ok-Some.ensures.found in
    sym (method_is c.args.text.now c.in-Some.inner.now _ _ _ (sym c.in-Some.ensures) found.0 found.1 (sym (rw c.in-None.is at c.in_ok-result.ensures)))
