use Rattle.std.proofs.Common.{sym, subst}
use Rattle.subtyping.specs.Steps.{IsStrictSubtype}
use Rattle.subtyping.proofs.Laws.{subtype-below, below-subtype, below-mono, subtype-never, false-unless}
use Rattle.subtyping.proofs.subtypes.Subtypes.is_sub_at.Goals as goal

pub returns-clause-exact : goal.returns-clause-exact
returns-clause-exact c known is = (
  (λ h. below-subtype known c.args.a.now c.args.b.now (below-mono is.sound c.args.a.now.dims c.args.a.now.base c.args.b.now.dims c.args.b.now.base (c.is_below.ensures.sound h))),
  (λ s. c.is_below.ensures.complete (below-mono is.complete c.args.a.now.dims c.args.a.now.base c.args.b.now.dims c.args.b.now.base (subtype-below known c.args.a.now c.args.b.now s))),
)

pub returns-clause-never_itself : goal.returns-clause-never_itself
returns-clause-never_itself c known is e = false-unless c.is_below.result (λ h.
    let s = below-subtype known c.args.a.now c.args.b.now (below-mono is.sound c.args.a.now.dims c.args.a.now.base c.args.b.now.dims c.args.b.now.base (c.is_below.ensures.sound h)) in
    subtype-never known c.args.a.now (subst (IsStrictSubtype known c.args.a.now) (sym e) s))
