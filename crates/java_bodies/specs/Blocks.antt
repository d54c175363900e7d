-- Blocks of a body that hold statements.
use Rattle.std.specs.Prelude.{ℕ, zero, suc, ◌+◌, Bool, true, false, ◌&&◌, ◌||◌, ◌==◌, not, List, [], ◌∷◌, drop, length, codes, Option, Some, None}
use Rattle.java_units.specs.Signs.{Sign}
use Rattle.java_units.specs.Forms.{begins, begins_any}
use Rattle.java_bodies.specs.Kept.{keeps}
use Rattle.java_bodies.specs.Openers.{opener}
use Rattle.java_bodies.specs.declared.mark.Brackets.TheVariants.{Blocks}

-- Whether one of these words stands right before the place.
unfoldable pub follows : List (List ℕ) → List Sign → ℕ → Bool
follows ws ss zero = false
follows ws ss (suc k) = begins_any ws (drop k ss)

abbrev pub follows_maybe : List (List ℕ) → List Sign → Option ℕ → Bool
follows_maybe ws ss None = false
follows_maybe ws ss (Some k) = follows ws ss k

-- Whether a bracketed header stands right before the place, and one of these words before the header.
unfoldable pub follows_header : List (List ℕ) → List Sign → ℕ → Bool
follows_header ws ss zero = false
follows_header ws ss (suc k) = begins (codes ")") (drop k ss) && follows_maybe ws ss (opener ss k)

-- What may stand right before a block of statements (JLS 14.2, 14.9 to 14.20), but for headers.
abbrev pub block_words : List (List ℕ)
block_words = codes "{" ∷ codes "}" ∷ codes ";" ∷ codes ":" ∷ codes "else" ∷ codes "do" ∷ codes "try" ∷ codes "finally" ∷ []

-- The words whose header may stand there.
abbrev pub header_words : List (List ℕ)
header_words = codes "if" ∷ codes "while" ∷ codes "switch" ∷ codes "synchronized" ∷ codes "for" ∷ codes "catch" ∷ codes "try" ∷ []

-- Whether a block of statements may begin at the place, which is behind the body's own brace or further on.
unfoldable pub may_begin_block : List Sign → ℕ → Bool
may_begin_block ss k = k == 0 || (follows block_words ss k || follows_header header_words ss k)

-- Whether a brace at the place, where one is open up to the hole, begins a block of statements.
unfoldable pub is_allowed_at : List Sign → ℕ → Bool
is_allowed_at ss k = not (begins (codes "{") (drop k ss) && keeps Blocks (drop (k + 1) ss)) || may_begin_block ss k

-- Whether the test holds for 0, 1 .. n - 1.
unfoldable pub all_below : (ℕ → Bool) → ℕ → Bool
all_below p zero = true
all_below p (suc n) = all_below p n && p n

-- Whether each brace that is open up to the hole begins a block of statements: so the hole stands in no
-- lambda, no class in the body, no initialiser of an array and no arm of a switch with `->`.
unfoldable pub is_in_blocks : List Sign → Bool
is_in_blocks ss = all_below (is_allowed_at ss) (length ss)
