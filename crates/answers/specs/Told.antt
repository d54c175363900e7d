-- What the pages of a list say, joined over a whole run.
use Rattle.std.specs.Prelude.{◌≡◌, ℕ, ◌==◌, if◌then◌else◌, Bool, false, List, [], ◌∷◌, ◌++◌, length, take, leb, All, Some, None}
use Rattle.decl_index.specs.declared.change.Change.{Change}
use Rattle.decl_index.specs.History.{first_withdrawal}
use Rattle.java_bodies.specs.declared.site.HoleSite.{HoleSite}
use Rattle.terms.specs.declared.parts.Parts.{Parts}
use Rattle.terms.specs.Expr.{Expr}
use Rattle.terms.specs.Listing.{IsWhole}
use Rattle.listing.specs.declared.item.Item.{Item}
use Rattle.listing.specs.Found.{terms_of, IsItem}
use Rattle.answers.specs.declared.types.Hole.{Hole}
use Rattle.answers.specs.declared.types.Cursor.{Cursor}
use Rattle.answers.specs.Holes.{IsSite, IsEnvironmentIn}
use Rattle.answers.specs.Cursors.{Lists}
use Rattle.answers.specs.Asks.{Ask, complete, Answer, opened, turned, withdrawn, explained, accepted, refused, quiet, ended}
use Rattle.answers.specs.Turns.{Turn, answer, next}

-- The items of a page of the list of a number.
abbrev pub items_of : ℕ → Answer → List Item
items_of k (opened c p) = if c.number == k then p.items else []
items_of k (turned c p) = if c.number == k then p.items else []
items_of k (withdrawn j v n) = []
items_of k (explained c x) = []
items_of k (accepted v) = []
items_of k (refused fault) = []
items_of k quiet = []
items_of k ended = []

-- Its pages, joined.
unfoldable pub joined : ℕ → List Answer → List Item
joined k [] = []
joined k (a ∷ more) = items_of k a ++ joined k more

-- What its newest page says of the list's end, where one came before.
abbrev pub last_by : ℕ → Bool → Answer → Bool
last_by k b (opened c p) = if c.number == k then p.last else b
last_by k b (turned c p) = if c.number == k then p.last else b
last_by k b (withdrawn j v n) = b
last_by k b (explained c x) = b
last_by k b (accepted v) = b
last_by k b (refused fault) = b
last_by k b quiet = b
last_by k b ended = b

unfoldable pub newest : ℕ → Bool → List Answer → Bool
newest k b [] = b
newest k b (a ∷ more) = newest k (last_by k b a) more

-- The items say what their terms are, they are a prefix of the whole list, and `last` stands exactly where they are all of it.
pub record IsTold (g : Parts) (given : List Item) (last : Bool) : Type 0 where
  pub says : All (IsItem g) given
  pub prefix : (ws : List Expr) → IsWhole g ws → terms_of given ≡ take (length given) ws
  pub ends : (ws : List Expr) → IsWhole g ws → last ≡ leb (length ws) (length given)

-- An answer about the list of a number: a page comes where its version isn't withdrawn in the history read, and a
-- refusal with the number of the withdrawal where it is.
abbrev pub Heeds : ℕ → ℕ → Answer → List Change → Type 0
Heeds k v (turned c p) at = c.number ≡ k → (c.version ≡ v) × (first_withdrawal at v ≡ None)
Heeds k v (withdrawn j x n) at = j ≡ k → (x ≡ v) × (first_withdrawal at v ≡ Some n)
Heeds k v (opened c p) at = Unit {0}
Heeds k v (explained c x) at = Unit {0}
Heeds k v (accepted x) at = Unit {0}
Heeds k v (refused fault) at = Unit {0}
Heeds k v quiet at = Unit {0}
Heeds k v ended at = Unit {0}

unfoldable pub AllHeed : ℕ → ℕ → Lists → List Turn → Type 0
AllHeed k v l [] = Unit {0}
AllHeed k v l (t ∷ ts) = Heeds k v (answer l t) t.met.at × AllHeed k v (next l t) ts

-- A completion that was answered by a list: its environment is that of its hole in the version that it tells, and the
-- pages of its cursor, joined over the whole run, are a prefix of that environment's list. Later pages are refused
-- exactly where the version was withdrawn.
pub record IsPaged (ask : Ask) (at : List Change) (c : Cursor) (all : List Answer) (after : Lists) (later : List Turn) : Type 0 where
  pub hole : Hole
  pub site : HoleSite
  pub count : ℕ
  pub asked : ask ≡ complete hole count
  pub place : IsSite hole (Some site)
  pub environment : IsEnvironmentIn at hole site c.env
  pub version : c.version ≡ length at
  pub told : IsTold c.env (joined c.number all) (newest c.number false all)
  pub heeds : AllHeed c.number c.version after later

abbrev pub PagedBy : Answer → Ask → List Change → List Answer → Lists → List Turn → Type 0
PagedBy (opened c p) ask at all after later = IsPaged ask at c all after later
PagedBy (turned c p) ask at all after later = Unit {0}
PagedBy (withdrawn k v n) ask at all after later = Unit {0}
PagedBy (explained c x) ask at all after later = Unit {0}
PagedBy (accepted v) ask at all after later = Unit {0}
PagedBy (refused fault) ask at all after later = Unit {0}
PagedBy quiet ask at all after later = Unit {0}
PagedBy ended ask at all after later = Unit {0}

-- Each completion that was answered by a list is paged so.
unfoldable pub AllPaged : List Answer → Lists → List Turn → Type 0
AllPaged all l [] = Unit {0}
AllPaged all l (t ∷ ts) = PagedBy (answer l t) t.ask t.met.at all (next l t) ts × AllPaged all (next l t) ts

-- No page of the list of a number, and each refusal names this withdrawal.
abbrev pub Shuts : ℕ → ℕ → Answer → Type 0
Shuts k n (turned c p) = c.number ≡ k → ⊥
Shuts k n (withdrawn j v m) = j ≡ k → m ≡ n
Shuts k n (opened c p) = Unit {0}
Shuts k n (explained c x) = Unit {0}
Shuts k n (accepted x) = Unit {0}
Shuts k n (refused fault) = Unit {0}
Shuts k n quiet = Unit {0}
Shuts k n ended = Unit {0}

unfoldable pub AllShut : ℕ → ℕ → Lists → List Turn → Type 0
AllShut k n l [] = Unit {0}
AllShut k n l (t ∷ ts) = Shuts k n (answer l t) × AllShut k n (next l t) ts
