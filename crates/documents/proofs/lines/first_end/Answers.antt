use Rattle.std.proofs.Common.{rules, tests}
use Rattle.documents.proofs.Begins.{found-cr, found-lf, found-none, found-two}
use Rattle.documents.proofs.lines.first_end.Goals as goal
use Rattle.documents.proofs.lines.first_end.Goals.{else-text-at-eq13-via-then-text-at-eq13+else-has_lf, else-text-at-eq13-via-else-text-at-eq13}

pub returns-in_default : goal.returns-in_default
returns-in_default c = found-none c.args.text.now (λ k low lt e. c.in_default.ensures k low lt e)

pub returns-then-has_lf : goal.returns-then-has_lf
returns-then-has_lf c = found-two c.args.text.now c.in-Some.at c.in-Some.ensures.0 (search rules) (search (rules, tests))

pub returns : goal.returns
returns c =
    elim c.else-text-at-eq13.branch [
      | else-text-at-eq13-via-then-text-at-eq13+else-has_lf w ↦ found-cr c.args.text.now c.in-Some.at c.in-Some.ensures.0 (search rules) (search (rules, tests))
      | else-text-at-eq13-via-else-text-at-eq13 w ↦ found-lf c.args.text.now c.in-Some.at c.in-Some.ensures.0 c.in-Some.ensures.1 (search rules)
    ]
