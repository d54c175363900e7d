-- What stands between a place and a later one: whether it closes a bracket that was open at the place.
use Rattle.std.specs.Prelude.{ℕ, suc, ◌-◌, Bool, ◌==◌, List, [], ◌∷◌}
use Rattle.java_units.specs.Signs.{Sign}
use Rattle.java_bodies.specs.Marks.{mark_of}
use Rattle.java_bodies.specs.declared.mark.Mark.{Mark}
use Rattle.java_bodies.specs.declared.mark.Mark.TheVariants as mark
use Rattle.java_bodies.specs.declared.mark.Brackets.{Brackets}
use Rattle.java_bodies.specs.declared.mark.Brackets.TheVariants.{Blocks, Rounds}

-- How many brackets are closed from a sign on that were open before it, where n are from behind it; round
-- ones count up to the next brace alone.
abbrev pub closed_before : Brackets → Mark → ℕ → ℕ
closed_before Blocks mark.OpensBlock n = n - 1
closed_before Blocks mark.ClosesBlock n = suc n
closed_before Blocks mark.OpensRound n = n
closed_before Blocks mark.ClosesRound n = n
closed_before Blocks mark.Plain n = n
closed_before Rounds mark.OpensBlock n = 0
closed_before Rounds mark.ClosesBlock n = 0
closed_before Rounds mark.OpensRound n = n - 1
closed_before Rounds mark.ClosesRound n = suc n
closed_before Rounds mark.Plain n = n

-- How many closing brackets of these signs have no opening one among them.
unfoldable pub unopened : Brackets → List Sign → ℕ
unopened b [] = 0
unopened b (s ∷ ss) = closed_before b (mark_of s) (unopened b ss)

-- Whether these signs close no bracket that was open before them.
unfoldable pub keeps : Brackets → List Sign → Bool
keeps b ss = unopened b ss == 0

-- The same of what follows each place.
unfoldable pub kept_marks : Brackets → List Sign → List Bool
kept_marks b [] = []
kept_marks b (s ∷ ss) = keeps b (s ∷ ss) ∷ kept_marks b ss
