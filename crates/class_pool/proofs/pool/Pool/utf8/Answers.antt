use Rattle.std.proofs.Common.{◌∷◌, subst, sym, ℕ}
use Rattle.class_pool.specs.Index.{IsAt}
use Rattle.class_pool.proofs.IndexLaws.{text_is, no_fault, no_want}
use Rattle.class_pool.proofs.pool.Pool.utf8.Goals as goal

pub returns-in-Ok : goal.returns-in-Ok
returns-in-Ok c =
    let at = subst (λ (t : ℕ). IsAt c.args.self.now.entries c.args.place (t ∷ c.in_ok-tag.rest.now)) c.if-tag-ne1.false c.in_ok-tag.ensures in
    record { is = sym (text_is 0 _ _ _ _ _ at c.in-Ok.ensures.exact) }

pub returns-in-Err : goal.returns-in-Err
returns-in-Err c =
    let at = subst (λ (t : ℕ). IsAt c.args.self.now.entries c.args.place (t ∷ c.in_ok-tag.rest.now)) c.if-tag-ne1.false c.in_ok-tag.ensures in
    absurd (no_fault 0 _ _ _ _ at (c.in-Err.ensures.exact (no_want 0 _ c.in-Err.ensures.cut)))
