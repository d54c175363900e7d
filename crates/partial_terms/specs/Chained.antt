-- Lists that share their ends, as a table of links makes them.
use Rattle.std.specs.Prelude.{◌≡◌, ℕ, ◌<◌, ◌≤◌, List, [], ◌∷◌, ◌++◌, length, get_or}
use Rattle.partial_terms.specs.declared.chains.Link.{Link}

-- the lists that are there, and then one for each link: its element before an earlier list
unfoldable pub lists_from : {T : Type 0} → List (List T) → List (Link T) → List (List T)
lists_from lists [] = lists
lists_from lists (l ∷ ls) = lists_from (lists ++ (l.head ∷ get_or lists l.tail []) ∷ []) ls

-- the lists of all links, the empty one first
abbrev pub lists_of : {T : Type 0} → List (Link T) → List (List T)
lists_of ls = lists_from ([] ∷ []) ls

-- what follows each link's element is an earlier list
abbrev pub AreLinked : {T : Type 0} → List (Link T) → Type 0
AreLinked {T} ls = (k : ℕ) (d : Link T) → k < length ls → (get_or ls k d).tail ≤ k

-- lists are only added
pub record IsGrown {T : Type 0} (old new : List (List T)) : Type 0 where
  pub longer : length old ≤ length new
  pub same : (i : ℕ) → i < length old → get_or new i [] ≡ get_or old i []
