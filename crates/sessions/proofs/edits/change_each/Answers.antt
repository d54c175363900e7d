use Rattle.sessions.proofs.Changes.{changed_more, changed_end}
use Rattle.sessions.proofs.edits.change_each.Goals as goal

pub loop-form-preserved : goal.loop-form-preserved
loop-form-preserved c = changed_more _ _ _ _ _ _ c.loop-form.invariant (c.in-Some.ensures.cases).0 c.in_ok-change_once.ensures.made

pub returns : goal.returns
returns c = record { made = changed_end _ _ _ c.loop-form.invariant c.in_default.ensures.cases }
