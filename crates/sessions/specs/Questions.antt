-- A question about lists, its answer, and what it met of the world.
use Rattle.std.specs.Prelude.{◌≡◌, ℕ, List, [], Some}
use Rattle.decl_index.specs.declared.change.Change.{Change}
use Rattle.json_rpc.specs.declared.message.Id.{Id}
use Rattle.answers.specs.Cursors.{Lists}
use Rattle.answers.specs.Asks.{Ask, complete, page, close, explain, change, exit, other, Short, Enough, Lacking, Ending, Met, classes, Answer, opened, turned, withdrawn, explained, accepted, refused, quiet, ended, list_answer_to, IsMetBy}
use Rattle.answers.specs.Turns.{change_of}
use Rattle.answers.specs.Replies.{reply_text, reply_of}
use Rattle.sessions.specs.Worlds.{WorldState, IsWholeOf, IsRead, MayRead}
use Rattle.sessions.specs.Publications.{Adds, Learns}

-- What an answer that is decided at a history leaves of the world: a page, or that its version is withdrawn, comes with one
-- read, which gave that history; an accepted change was made at it, and a refused one is refused after all that is then known;
-- else the world isn't touched.
abbrev pub Leaves : Answer → List Change → List Change → WorldState → WorldState → Type 0
Leaves (opened c p) at made old new = (at ≡ new.known) × IsRead old new
Leaves (turned c p) at made old new = (at ≡ new.known) × IsRead old new
Leaves (withdrawn k v n) at made old new = (at ≡ new.known) × IsRead old new
Leaves (explained c x) at made old new = new ≡ old
Leaves (accepted v) at made old new = Adds at made old new
Leaves (refused fault) at made old new = (at ≡ new.known) × IsWholeOf new.whole at × Learns old new
Leaves quiet at made old new = new ≡ old
Leaves ended at made old new = new ≡ old

-- What it leaves where memory was wanting: a question for a page may have been read for, and of a change that wasn't made more
-- may be known.
abbrev pub MayLeave : Ask → WorldState → WorldState → Type 0
MayLeave (complete hole count) old new = MayRead old new
MayLeave (page k count) old new = MayRead old new
MayLeave (close k) old new = new ≡ old
MayLeave (explain k item) old new = new ≡ old
MayLeave (change c) old new = Learns old new
MayLeave exit old new = new ≡ old
MayLeave other old new = new ≡ old

abbrev pub Touches : Short → Ask → Answer → List Change → WorldState → WorldState → Type 0
Touches Enough ask answer at old new = Leaves answer at (change_of ask) old new
Touches Lacking ask answer at old new = MayLeave ask old new
Touches Ending ask answer at old new = new ≡ old

-- A question that names no file was answered with memory enough: the lists after it, and the body of the reply to the request of
-- this id.
pub record Answers (l : Lists) (ask : Ask) (id : Id) (next : Lists) (reply : List ℕ) (old new : WorldState) : Type 0 where
  pub met : Met
  pub enough : met.short ≡ Enough
  pub no_file : met.loads ≡ classes []
  pub lawful : IsMetBy l ask met
  pub lists : (list_answer_to l ask met).0 ≡ next
  pub told : reply_text (Some id) (reply_of l met ask (list_answer_to l ask met).1) ≡ reply
  pub leaves : Leaves (list_answer_to l ask met).1 met.at (change_of ask) old new
