use Rattle.std.proofs.Common.{subst, sym, ℕ, List, Contains}
use Rattle.graphs.proofs.Marks.{listed_more}
use Rattle.graphs.proofs.reach.mark.Goals as goal

pub returns-in_err-push-clause-listed : goal.returns-in_err-push-clause-listed
returns-in_err-push-clause-listed c = λ h k e. subst (λ (xs : List ℕ). Contains xs k) (sym c.in_err-push.ensures.items) (h k e)

pub returns-clause-listed : goal.returns-clause-listed
returns-clause-listed c = listed_more c.args.marks.now.items c.args.worklist.now.items _ c.args.node c.in_ok-push.ensures.items c.requires
