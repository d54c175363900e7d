-- For each state the edges of which it is a tail, as chains of links that lie in one list. A link is named by one
-- more than its place; 0 ends a chain.
use Rattle.std.specs.Prelude.{◌≡◌, ℕ, suc, ◌≤◌, ◌<◌, true, List, length, slice_get, slice_index_or, Some}
use Rattle.succinct.specs.Sets.{has}
use Rattle.edges.specs.Edges.{Edge}
use Rattle.least_weights.specs.declared.users.Link.{Link}

-- edge m stands in the chain from a link on
pub data Leads (links : List Link) : ℕ → ℕ → Type 0 where
  here : (k : ℕ) (l : Link) → slice_get links k ≡ Some l → Leads links (suc k) l.edge
  later : (k m : ℕ) (l : Link) → slice_get links k ≡ Some l → Leads links l.next m → Leads links (suc k) m

-- each link leads to one before it, and the first ones are there
pub record AreChains (firsts : List ℕ) (links : List Link) : Type 0 where
  pub falling : (k : ℕ) (l : Link) → slice_get links k ≡ Some l → l.next ≤ k
  pub within : (t : ℕ) → slice_index_or firsts t 0 ≤ length links

-- the chain of each state has at least the edges of which it is a tail
abbrev pub AreUsers : List Edge → List ℕ → List Link → Type 0
AreUsers edges firsts links = (m t : ℕ) (e : Edge) → slice_get edges m ≡ Some e → has t e.tails ≡ true → t < length firsts → Leads links (slice_index_or firsts t 0) m
