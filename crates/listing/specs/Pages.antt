-- Pages of the list.
use Rattle.std.specs.Prelude.{◌≡◌, ◌↔◌, ◌⊎◌, ℕ, ◌+◌, ◌-◌, ◌≤◌, List, length, take, drop, min, IsTrue}
use Rattle.terms.specs.Expr.{Expr}
use Rattle.terms.specs.Listing.{IsWhole}
use Rattle.listing.specs.declared.item.Item.{Item}
use Rattle.listing.specs.declared.page.Page.{Page}
use Rattle.listing.specs.Found.{Listed, terms_of, IsOfWholeLevels}

-- the items of a page
abbrev pub items_of : Listed → Page → List Item
items_of l page = take page.len (drop page.first l.found)

-- a page of at most `count` items from the item `from` on, over what is found after it was asked for
pub record IsPage (from count : ℕ) (before after : Listed) (page : Page) : Type 0 where
  pub first : page.first ≡ min from (length after.found)
  pub len : page.len ≡ min count (length after.found - from)
  pub slice : (ws : List Expr) → IsWhole after.parts ws → terms_of (items_of after page) ≡ take count (drop from ws)
  pub last : IsTrue page.last ↔ (IsWhole after.parts (terms_of after.found) × (page.first + page.len ≡ length after.found))
  pub ends : (ws : List Expr) → IsWhole after.parts ws → IsTrue page.last ↔ (page.first + page.len ≡ length ws)
  pub grown : length before.found + page.grown ≡ length after.found
  pub bound : (fs : List Expr) → IsOfWholeLevels after.parts fs → (from + count + 1 ≤ length fs) ⊎ (IsWhole after.parts fs) → page.grown ≤ length fs
