use Rattle.std.proofs.Common.{◌≡◌, length}
use Rattle.answers.specs.Sessions.{changed_state}
use Rattle.sessions.proofs.edits.change_each.Given as goal

abbrev pub invariant-loop-form : goal.invariant-loop-form
invariant-loop-form l = changed_state l.fn.state l.changes ≡ changed_state l.state l.rest

abbrev pub decreases-loop-form : goal.decreases-loop-form
decreases-loop-form l = length l.rest
