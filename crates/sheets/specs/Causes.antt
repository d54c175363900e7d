-- The numbers of the causes.
use Rattle.std.specs.Prelude.{ℕ, Option, Some, None}
use Rattle.sheets.specs.declared.cause.SheetCause.{SheetCause}
use Rattle.sheets.specs.declared.cause.SheetCause.TheVariants as cause

-- the number that users see
abbrev pub cause_number : SheetCause → ℕ
cause_number cause.NotUtf8 = 1
cause_number cause.FirstLine = 2
cause_number cause.NoSuchLine = 3
cause_number cause.NoNumber = 4
cause_number cause.UnknownType = 5
cause_number cause.TypeTwice = 6
cause_number cause.LineTwice = 7
cause_number cause.NoGoal = 8
cause_number cause.TooLong = 9
cause_number cause.TypeRange = 11
cause_number cause.PairRange = 12
cause_number cause.PairTwice = 13
cause_number cause.Weight = 14
cause_number cause.Limit = 15
cause_number cause.NotTransitive = 16
cause_number cause.Depth = 17
cause_number cause.Form = 18
cause_number cause.Step = 19

-- the number of a cause, where there is one
abbrev pub number_of : Option SheetCause → Option ℕ
number_of None = None
number_of (Some c) = Some (cause_number c)
