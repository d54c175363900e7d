-- What a listing has found of its environment's list.
use Rattle.std.specs.Prelude.{◌≡◌, ◌⊎◌, ℕ, ◌+◌, ◌<◌, ◌≤◌, ◌^◌, Bool, true, ◌&&◌, nat_le, nat_lt, List, ◌++◌, length, map, take, All}
use Rattle.std.specs.declared.cmp.Ordering.{Ordering}
use Rattle.std.specs.Ordering.{nat_cmp, ordering_then}
use Rattle.std.specs.Cmp.Lexicographic.{slice_cmp}
use Rattle.terms.specs.Expr.{Expr}
use Rattle.terms.specs.View.{expr}
use Rattle.terms.specs.Count.{expr_eq, once_if, count, Stands}
use Rattle.terms.specs.Code.{prefix_code}
use Rattle.terms.specs.Place.{IsInhabitant, is_inhabitant, total_of}
use Rattle.terms.specs.Text.{text_of}
use Rattle.terms.specs.Listing.{IsFront, IsWhole, IsRising, Progress, Skipped}
use Rattle.terms.specs.declared.parts.Parts.{Parts}
use Rattle.terms.specs.declared.term.Term.{Term}
use Rattle.listing.specs.declared.item.Item.{Item}
use Rattle.listing.specs.declared.item.Keyed.{Keyed}

-- the term of an item
abbrev pub term_of : Item → Expr
term_of i = expr i.term

-- the terms of items, in order
abbrev pub terms_of : List Item → List Expr
terms_of items = map term_of items

-- an item says its term's weight and text
pub record IsItem (g : Parts) (i : Item) : Type 0 where
  pub weight : i.weight ≡ total_of g (term_of i)
  pub text : i.text ≡ text_of g (term_of i)

-- a front made of whole levels: with a term each inhabitant of the same weight
pub record IsOfWholeLevels (g : Parts) (es : List Expr) : Type 0 where
  pub front : IsFront g es
  pub level : (e f : Expr) → IsInhabitant g e → Stands f es → total_of g e ≡ total_of g f → Stands e es

-- what a listing has found, and the weight up to which its search has gone
pub record Listed : Type 0 where
  pub parts : Parts
  pub found : List Item
  pub at_end : Bool
  pub reached : ℕ
  pub pops : ℕ

-- what is found is a front made of whole levels, its items say what their terms are, it is the whole list where
-- the search has met its end, the search has gone no further than to the level that follows it, and no memory
-- holds 2^62 items
pub record IsListed (l : Listed) : Type 0 where
  pub levels : IsOfWholeLevels l.parts (terms_of l.found)
  pub items : All (IsItem l.parts) l.found
  pub whole : l.at_end ≡ true → IsWhole l.parts (terms_of l.found)
  pub no_further : (e : Expr) → IsInhabitant l.parts e → total_of l.parts e < l.reached → Stands e (terms_of l.found)
  pub small : length l.found < 2 ^ 62

-- the order within a level: by text, then by prefix code
abbrev pub keyed_cmp : Keyed → Keyed → Ordering
keyed_cmp a b = ordering_then (slice_cmp nat_cmp a.item.text b.item.text) (slice_cmp nat_cmp a.code b.code)

-- the item, without its code
abbrev pub item_of : Keyed → Item
item_of k = k.item

-- the term of an item with its code
abbrev pub keyed_term : Keyed → Expr
keyed_term k = term_of k.item

-- the item is what its term says, at this weight, and the code is the term's
pub record IsKeyed (g : Parts) (level : ℕ) (k : Keyed) : Type 0 where
  pub weight : k.item.weight ≡ level
  pub text : k.item.text ≡ text_of g (keyed_term k)
  pub code : k.code ≡ prefix_code (keyed_term k)

-- the terms of the level that is held: without their texts, and with them
abbrev pub held : List Term → List Keyed → List Expr
held waiting keyed = map expr waiting ++ map keyed_term keyed

-- the weights of the terms of a list: those from one weight up to another, each term once
abbrev pub IsBetween : Parts → ℕ → ℕ → List Expr → Type 0
IsBetween g low high es = (e : Expr) → count (expr_eq e) es ≡ once_if (is_inhabitant g e && (nat_le low (total_of g e) && nat_lt (total_of g e) high))

-- how a search and what was found of it belong together: all lighter than `below` is found, the level that
-- was given after it is held, and the search stands behind both
pub record IsKept (p : Progress) (found : List Item) (waiting : List Term) (keyed : List Keyed) (weight below : ℕ) (at_end : Bool) : Type 0 where
  pub order : below ≤ p.from
  pub found_between : IsBetween p.parts 0 below (terms_of found)
  pub held_between : IsBetween p.parts below p.from (held waiting keyed)
  pub held_weight : (e : Expr) → Stands e (held waiting keyed) → total_of p.parts e ≡ weight
  pub rising : IsRising p.parts (terms_of found)
  pub items : All (IsItem p.parts) found
  pub coded : All (IsKeyed p.parts weight) keyed
  pub ended : at_end ≡ true → Skipped p.parts below (p.parts.limit + 1)
  pub next : 0 < length waiting + length keyed → p.from ≡ weight + 1
  pub small : length found < 4611686018427387904

-- what is listed, and how many terms of the level that is held have no text yet, and have one
pub record Growth : Type 0 where
  pub listed : Listed
  pub waiting : ℕ
  pub keyed : ℕ

-- found grew by whole levels, and by no more than any longer front of whole levels, or the whole list, has
abbrev pub IsWithin : Parts → List Item → List Item → Type 0
IsWithin g old new = (fs : List Expr) → IsOfWholeLevels g fs → (length old < length fs) ⊎ (IsWhole g fs) → (length new ≤ length old) ⊎ (length new ≤ length fs)

-- found grew no further than it had to, to hold so many items or to be whole
abbrev pub IsNoFurther : Parts → ℕ → List Item → List Item → Type 0
IsNoFurther g wanted old new = (fs : List Expr) → IsOfWholeLevels g fs → (wanted ≤ length fs) ⊎ (IsWhole g fs) → (length new ≤ length old) ⊎ (length new ≤ length fs)

-- the items before stand in front of the items after
abbrev pub IsLonger : List Item → List Item → Type 0
IsLonger old new = take (length old) new ≡ old
