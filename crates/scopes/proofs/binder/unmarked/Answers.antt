use Rattle.std.proofs.Common.{◌≡◌, ℕ, false, true, not, get_or, length, sym, ◌∙◌, ap, arith, unwrap_or}
use Rattle.std.proofs.lemmas.Grind.{common_steps}
use Rattle.scopes.proofs.Runs.{first_more, first_here, first_none}
use Rattle.scopes.proofs.binder.unmarked.Goals as goal

pub returns-then-not-marks-n : goal.returns-then-not-marks-n
returns-then-not-marks-n c =
    let p = λ (n : ℕ). not (get_or c.args.marks.now n false) in
    let t : not (get_or c.args.marks.now c.loop-n.n false) ≡ true = grind (arith, common_steps) in
    sym (ap (λ o. unwrap_or o 1) (c.loop-n.invariant ∙ first_here (length c.args.marks.now) c.loop-n.n p (omega arith) t))

pub loop-n-preserved : goal.loop-n-preserved
loop-n-preserved c =
    let p = λ (n : ℕ). not (get_or c.args.marks.now n false) in
    let t : not (get_or c.args.marks.now c.loop-n.n false) ≡ false = grind (arith, common_steps) in
    c.loop-n.invariant ∙ first_more (length c.args.marks.now) c.loop-n.n p (omega arith) t

pub returns : goal.returns
returns c =
    let p = λ (n : ℕ). not (get_or c.args.marks.now n false) in
    sym (ap (λ o. unwrap_or o 1) (c.loop-n.invariant ∙ first_none (length c.args.marks.now) c.loop-n.n p (omega arith)))
