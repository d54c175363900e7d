use Rattle.std.proofs.Common.{◌≡◌, take, map}
use Rattle.answers.specs.Replies.{form_of}
use Rattle.sessions.proofs.replies.forms_of.Given as goal

abbrev pub invariant-loop-item : goal.invariant-loop-item
invariant-loop-item l = l.forms ≡ map form_of (take l.item-index l.items)
