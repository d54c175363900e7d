-- The questions of one client about lists and versions, what they met, and what the client had seen.
use Rattle.std.specs.Prelude.{◌≡◌, List, [], ◌∷◌, ◌++◌, Option, Some, None}
use Rattle.decl_index.specs.declared.change.Change.{Change}
use Rattle.answers.specs.Histories.{IsPrefix}
use Rattle.answers.specs.Cursors.{Lists}
use Rattle.answers.specs.Asks.{Ask, complete, page, close, explain, change, exit, other, Met, Answer, opened, turned, withdrawn, explained, accepted, refused, quiet, ended, list_answer_to, IsMetBy}

-- A question and what it met.
pub record Turn : Type 0 where
  pub ask : Ask
  pub met : Met

-- The answer to a question, and the lists after it.
abbrev pub answer : Lists → Turn → Answer
answer l t = (list_answer_to l t.ask t.met).1

abbrev pub next : Lists → Turn → Lists
next l t = (list_answer_to l t.ask t.met).0

-- The answers to questions, one after the other.
unfoldable pub answers_to : Lists → List Turn → List Answer
answers_to l [] = []
answers_to l (t ∷ ts) = answer l t ∷ answers_to (next l t) ts

-- Each question met what it may meet.
unfoldable pub AllMet : Lists → List Turn → Type 0
AllMet l [] = Unit {0}
AllMet l (t ∷ ts) = IsMetBy l t.ask t.met × AllMet (next l t) ts

-- The change that is asked for, where it is one.
abbrev pub change_of : Ask → List Change
change_of (change c) = c ∷ []
change_of (complete hole count) = []
change_of (page k count) = []
change_of (close k) = []
change_of (explain k item) = []
change_of exit = []
change_of other = []

-- What a client has seen is one history, which only grows. A read, or a refused change, is decided at it; after an
-- accepted change it begins with the history of that change and the change.
abbrev pub Sees : List Change → Answer → List Change → List Change → List Change → Type 0
Sees known (opened c p) at made after = (at ≡ after) × IsPrefix known after
Sees known (turned c p) at made after = (at ≡ after) × IsPrefix known after
Sees known (withdrawn k v n) at made after = (at ≡ after) × IsPrefix known after
Sees known (refused fault) at made after = (at ≡ after) × IsPrefix known after
Sees known (explained c x) at made after = IsPrefix known after
Sees known (accepted v) at made after = IsPrefix (at ++ made) after × IsPrefix known after
Sees known quiet at made after = IsPrefix known after
Sees known ended at made after = IsPrefix known after

-- From what the client had seen before the questions to what it has seen after them.
unfoldable pub AllSee : List Change → Lists → List Turn → List Change → Type 0
AllSee known l [] end = IsPrefix known end
AllSee known l (t ∷ ts) end = (after : List Change) × Sees known (answer l t) t.met.at (change_of t.ask) after × AllSee after (next l t) ts end

-- What an answer tells of the history: all that the client has then seen or published.
abbrev pub told_by : Answer → List Change → List Change → Option (List Change)
told_by (opened c p) at made = Some at
told_by (turned c p) at made = Some at
told_by (withdrawn k v n) at made = Some at
told_by (refused fault) at made = Some at
told_by (explained c x) at made = None
told_by (accepted v) at made = Some (at ++ made)
told_by quiet at made = None
told_by ended at made = None

-- The history of a read or of a refused change includes an earlier one.
abbrev pub Includes : Answer → List Change → List Change → Type 0
Includes (opened c p) earlier at = IsPrefix earlier at
Includes (turned c p) earlier at = IsPrefix earlier at
Includes (withdrawn k v n) earlier at = IsPrefix earlier at
Includes (refused fault) earlier at = IsPrefix earlier at
Includes (explained c x) earlier at = Unit {0}
Includes (accepted v) earlier at = Unit {0}
Includes quiet earlier at = Unit {0}
Includes ended earlier at = Unit {0}

abbrev pub IncludesSome : Answer → Option (List Change) → List Change → Type 0
IncludesSome a None at = Unit {0}
IncludesSome a (Some earlier) at = Includes a earlier at

-- All later ones include it.
unfoldable pub AllInclude : Option (List Change) → Lists → List Turn → Type 0
AllInclude earlier l [] = Unit {0}
AllInclude earlier l (t ∷ ts) = IncludesSome (answer l t) earlier t.met.at × AllInclude earlier (next l t) ts

-- What a client met is a chain: the history of each read and of each refused change includes all that the client had
-- read, met at a refusal, or published before.
unfoldable pub IsChain : Lists → List Turn → Type 0
IsChain l [] = Unit {0}
IsChain l (t ∷ ts) = AllInclude (told_by (answer l t) t.met.at (change_of t.ask)) (next l t) ts × IsChain (next l t) ts
