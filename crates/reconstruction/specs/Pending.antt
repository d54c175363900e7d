-- The items that a search has still to look at.
use Rattle.std.specs.Prelude.{ℕ, List, Option}
use Rattle.reconstruction.specs.declared.item.Item.{Item}

-- the item that was popped last and isn't taken yet, the keyed items of the queue, and how often it popped
pub record Pending : Type 0 where
  pub held : Option (ℕ × Item)
  pub queue : List (ℕ × Item)
  pub pops : ℕ
