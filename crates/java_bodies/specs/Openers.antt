-- Which brackets match.
use Rattle.std.specs.Prelude.{ℕ, zero, suc, List, [], ◌∷◌, ◌++◌, length, slice_get, Option, Some, None}
use Rattle.java_units.specs.Signs.{Sign}
use Rattle.java_bodies.specs.Marks.{mark_of}
use Rattle.java_bodies.specs.declared.mark.Mark.{Mark}
use Rattle.java_bodies.specs.declared.mark.Mark.TheVariants as mark

-- Of open brackets, the innermost first, those outside the innermost block; a round one is given by its place.
abbrev pub outside : List (Option ℕ) → List (Option ℕ)
outside [] = []
outside (None ∷ ks) = ks
outside (Some k ∷ ks) = outside ks

-- Those that stay open behind a `)`: it closes no bracket outside the innermost block.
abbrev pub past_round : List (Option ℕ) → List (Option ℕ)
past_round [] = []
past_round (None ∷ ks) = None ∷ ks
past_round (Some k ∷ ks) = ks

-- Those that are open behind a sign at place k.
abbrev pub open_after : Mark → ℕ → List (Option ℕ) → List (Option ℕ)
open_after mark.OpensBlock k ks = None ∷ ks
open_after mark.ClosesBlock k ks = outside ks
open_after mark.OpensRound k ks = Some k ∷ ks
open_after mark.ClosesRound k ks = past_round ks
open_after mark.Plain k ks = ks

abbrev pub open_after_maybe : Option Sign → ℕ → List (Option ℕ) → List (Option ℕ)
open_after_maybe None k ks = ks
open_after_maybe (Some s) k ks = open_after (mark_of s) k ks

-- The brackets that are open before a place, the innermost first.
unfoldable pub open_at : List Sign → ℕ → List (Option ℕ)
open_at ss zero = []
open_at ss (suc k) = open_after_maybe (slice_get ss k) k (open_at ss k)

-- The place of the innermost one, where it is round.
abbrev pub innermost : List (Option ℕ) → Option ℕ
innermost [] = None
innermost (k ∷ ks) = k

-- The place of the `(` that a `)` at this place closes.
unfoldable pub opener : List Sign → ℕ → Option ℕ
opener ss k = innermost (open_at ss k)

-- The lists for 0, 1 .. n - 1, joined.
unfoldable pub gathered : {A : Type 0} → (ℕ → List A) → ℕ → List A
gathered f zero = []
gathered f (suc n) = gathered f n ++ f n

abbrev pub opener_alone : List Sign → ℕ → List (Option ℕ)
opener_alone ss k = opener ss k ∷ []

-- The opener of each place.
unfoldable pub openers : List Sign → List (Option ℕ)
openers ss = gathered (opener_alone ss) (length ss)
