-- What a message asks of lists and versions, and the answer: a function of the cursors, the question and what it met.
use Rattle.std.specs.Prelude.{◌≡◌, ℕ, suc, ◌+◌, if◌then◌else◌, Bool, false, List, length, leb, Option, Some, None}
use Rattle.std.specs.Str.{chars}
use Rattle.known_classes.specs.declared.summary.ClassSummary.{ClassSummary}
use Rattle.decl_index.specs.declared.change.Change.{Change}
use Rattle.decl_index.specs.declared.change.ChangeFault.{ChangeFault}
use Rattle.decl_index.specs.History.{first_withdrawal}
use Rattle.decl_index.specs.Refusals.{Refuses}
use Rattle.documents.specs.Places.{position_of}
use Rattle.java_bodies.specs.declared.site.HoleSite.{HoleSite}
use Rattle.terms.specs.declared.parts.Parts.{Parts}
use Rattle.terms.specs.Expr.{Expr}
use Rattle.checker.specs.declared.floor.Floor.{Floor}
use Rattle.answers.specs.declared.types.Hole.{Hole}
use Rattle.answers.specs.declared.types.Page.{Page}
use Rattle.answers.specs.declared.types.Cursor.{Cursor}
use Rattle.answers.specs.Holes.{IsSite, IsEnvironmentIn}
use Rattle.answers.specs.Cursors.{IsPageOf, Lists, look, moved, without, with_cursor}
use Rattle.answers.specs.Certificates.{Certificate, spelled, bounded, IsItemAt, AreFloorsOf}

-- What is asked of lists and versions: the first page of a new list, a further page, to close a list, to explain an item of a
-- list or its least weight, to make a change, to end the session, or nothing of these.
pub data Ask : Type 0 where
  complete : (hole : Hole) (count : ℕ) → Ask
  page : (number count : ℕ) → Ask
  close : (number : ℕ) → Ask
  explain : (number : ℕ) (item : Option ℕ) → Ask
  change : (made : Change) → Ask
  exit : Ask
  other : Ask

-- Memory wasn't wanting; it was; or it was and the session ends.
pub data Short : Type 0 where
  Enough : Short
  Lacking : Short
  Ending : Short

-- What the files of a publication gave: the classes that it puts, in order; or the number of the first file that gave nothing and
-- why: it wasn't there, was too long, was no class file, with the fault's number and place, was a source that isn't UTF-8, or
-- couldn't be read. Files are numbered through class files and then sources.
pub data Loaded : Type 0 where
  classes : List ClassSummary → Loaded
  missing : (index : ℕ) → Loaded
  too_long : (index : ℕ) → Loaded
  no_class_file : (index class_fault place : ℕ) → Loaded
  no_text : (index : ℕ) → Loaded
  unreadable : (index : ℕ) → Loaded

-- What a message met outside the session: the history at which it is decided, what its files gave, the site of its hole, its
-- environment, its page, the term and the floors of its certificate, why its change is refused, and whether memory was wanting.
pub record Met : Type 0 where
  pub at : List Change
  pub loads : Loaded
  pub site : Option HoleSite
  pub env : Parts
  pub page : Page
  pub term : Option Expr
  pub floors : List Floor
  pub fault : Option ChangeFault
  pub short : Short

-- What is answered about lists and versions; `quiet` tells nothing of them, and `ended` ends the session.
pub data Answer : Type 0 where
  opened : (cursor : Cursor) (page : Page) → Answer
  turned : (cursor : Cursor) (page : Page) → Answer
  withdrawn : (number version through : ℕ) → Answer
  explained : (cursor : Cursor) (certificate : Certificate) → Answer
  accepted : (version : ℕ) → Answer
  refused : (fault : ChangeFault) → Answer
  quiet : Answer
  ended : Answer

-- A new cursor, which has answered its first page.
abbrev pub new_cursor : Lists → Met → Hole → HoleSite → Cursor
new_cursor l m hole site = record {
  number = suc l.made;
  env = m.env;
  version = length m.at;
  start = position_of (chars hole.text) site.prefix.0;
  end = position_of (chars hole.text) site.prefix.1;
  answered = length m.page.items;
}

-- A session makes at most 4,294,967,295 cursors.
abbrev pub is_used_up : Lists → Bool
is_used_up l = leb 4294967295 l.made

unfoldable pub completed_at : Lists → Met → Hole → HoleSite → Lists × Answer
completed_at l m hole site = if is_used_up l then (l, quiet) else (with_cursor (new_cursor l m hole site) l, opened (new_cursor l m hole site) m.page)

-- A completion makes a cursor where there is a hole.
abbrev pub completed : Lists → Met → Hole → Option HoleSite → Lists × Answer
completed l m hole None = (l, quiet)
completed l m hole (Some site) = completed_at l m hole site

-- A page moves its cursor on, where the version isn't withdrawn.
abbrev pub turned_or : Lists → Met → Cursor → Option ℕ → Lists × Answer
turned_or l m c (Some through) = (l, withdrawn c.number c.version through)
turned_or l m c None = (record l { cursors = moved c.number (length m.page.items) l.cursors }, turned c m.page)

-- A page of a cursor that is kept.
abbrev pub paged : Lists → Met → Option Cursor → Lists × Answer
paged l m None = (l, quiet)
paged l m (Some c) = turned_or l m c (first_withdrawal m.at c.version)

-- The item's term is told, where the list has it.
abbrev pub spelled_or : Lists → Cursor → Option Expr → Lists × Answer
spelled_or l c None = (l, quiet)
spelled_or l c (Some term) = (l, explained c (spelled term))

-- An item is explained where it is among those that its cursor has answered, a list by its floors.
unfoldable pub item_explained : Lists → Met → Cursor → ℕ → Lists × Answer
item_explained l m c i = if leb c.answered i then (l, quiet) else spelled_or l c m.term

abbrev pub explained_by : Lists → Met → Cursor → Option ℕ → Lists × Answer
explained_by l m c None = (l, explained c (bounded m.floors))
explained_by l m c (Some i) = item_explained l m c i

-- A list that is kept is explained, whether its version is withdrawn or not.
abbrev pub explained_in : Lists → Met → Option ℕ → Option Cursor → Lists × Answer
explained_in l m item None = (l, quiet)
explained_in l m item (Some c) = explained_by l m c item

-- A change is accepted where it isn't refused; its version is the length of the history with it.
abbrev pub changed : Lists → Met → Option ChangeFault → Lists × Answer
changed l m None = (l, accepted (length m.at + 1))
changed l m (Some fault) = (l, refused fault)

abbrev pub by_ask : Lists → Met → Ask → Lists × Answer
by_ask l m (complete hole count) = completed l m hole m.site
by_ask l m (page k count) = paged l m (look k l.cursors)
by_ask l m (close k) = (record l { cursors = without k l.cursors }, quiet)
by_ask l m (explain k item) = explained_in l m item (look k l.cursors)
by_ask l m (change c) = changed l m m.fault
by_ask l m exit = (l, ended)
by_ask l m other = (l, quiet)

-- Where memory is wanting nothing is told, but an exit ends the session all the same.
abbrev pub lacking : Lists → Ask → Lists × Answer
lacking l (complete hole count) = (l, quiet)
lacking l (page k count) = (l, quiet)
lacking l (close k) = (l, quiet)
lacking l (explain k item) = (l, quiet)
lacking l (change c) = (l, quiet)
lacking l exit = (l, ended)
lacking l other = (l, quiet)

abbrev pub by_short : Short → Lists → Ask → Met → Lists × Answer
by_short Enough l a m = by_ask l m a
by_short Lacking l a m = lacking l a
by_short Ending l a m = (l, ended)

-- The answer to a question, and the lists after it.
abbrev pub list_answer_to : Lists → Ask → Met → Lists × Answer
list_answer_to l a m = by_short m.short l a m

-- The change meets its fault, or none where it isn't refused.
abbrev pub IsDecided : List Change → Change → Option ChangeFault → Type 0
IsDecided at c (Some fault) = Refuses at c fault
IsDecided at c None = (fault : ChangeFault) → Refuses at c fault → ⊥

-- The environment and the first page that a new cursor meets.
abbrev pub OpensBy : Lists → Met → Hole → ℕ → Option HoleSite → Type 0
OpensBy l m hole count None = Unit {0}
OpensBy l m hole count (Some site) = is_used_up l ≡ false → IsEnvironmentIn m.at hole site m.env × IsPageOf m.env 0 count m.page

-- The term, or the floors, that an explanation meets: of an item that was answered, the term at its place.
abbrev pub ExplainsBy : Met → Cursor → Option ℕ → Type 0
ExplainsBy m c None = AreFloorsOf c.env m.floors
ExplainsBy m c (Some i) = leb c.answered i ≡ false → IsItemAt c.env i m.term

-- What a question may meet.
abbrev pub MetBy : Lists → Met → Ask → Type 0
MetBy l m (complete hole count) = IsSite hole m.site × OpensBy l m hole count m.site
MetBy l m (page k count) = (c : Cursor) → look k l.cursors ≡ Some c → first_withdrawal m.at c.version ≡ None → IsPageOf c.env c.answered count m.page
MetBy l m (close k) = Unit {0}
MetBy l m (explain k item) = (c : Cursor) → look k l.cursors ≡ Some c → ExplainsBy m c item
MetBy l m (change c) = IsDecided m.at c m.fault
MetBy l m exit = Unit {0}
MetBy l m other = Unit {0}

abbrev pub IsMetIf : Short → Lists → Met → Ask → Type 0
IsMetIf Enough l m a = MetBy l m a
IsMetIf Lacking l m a = Unit {0}
IsMetIf Ending l m a = Unit {0}

-- What a question may meet, where memory isn't wanting.
abbrev pub IsMetBy : Lists → Ask → Met → Type 0
IsMetBy l a m = IsMetIf m.short l m a
