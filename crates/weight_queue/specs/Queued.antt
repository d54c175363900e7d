-- What a queue by key holds.
use Rattle.std.specs.Prelude.{ℕ, List, min, ◌+◌}

-- Items under their keys, in an order that says nothing; the room that is reserved for more; and how many
-- items were taken out.
pub record Queued (T : Type 0) : Type 0 where
  pub items : List (ℕ × T)
  pub spare : ℕ
  pub pops : ℕ

-- The count after one more item was taken out: one more, up to the greatest number of 64 bits, where it stays.
abbrev pub one_more_pop : ℕ → ℕ
one_more_pop n = min (n + 1) 18446744073709551615
