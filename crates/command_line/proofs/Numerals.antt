-- What `parse` gives for one to seven digits.
use Rattle.std.proofs.Common.{rules, ◌≡◌, ◌≢◌, ℕ, ◌<◌, List, [], ◌∷◌, length, arith, refl, true, Result, Ok}
use Rattle.std.specs.Str.{all_ascii_digits}
use Rattle.std.specs.Str.Parse.{ParsesUnsigned, digits_value, digits_value_after}
use Rattle.std.proofs.lemmas.Str.Parse.{IsNumeralModel, numerals_by_fold, parse_gives, digits_value_short}
use Rattle.command_line.specs.Words.{IsShortNumeral}

own : IsNumeralModel (λ ds. all_ascii_digits ds ≡ true) (digits_value 10)
own = numerals_by_fold _ (search rules) (digits_value_after 10) (search rules)

some_long : (w : List ℕ) → w ≢ [] → 0 < length w
some_long [] some = absurd (some refl)
some_long (b ∷ w) some = omega arith

pub numeral-value : {E : Type 0} (w : List ℕ) (r : Result ℕ E) → ParsesUnsigned 32 10 w r → IsShortNumeral w → r ≡ Ok (digits_value 10 w)
numeral-value w r h is =
    parse_gives own 32 w r h is.digits (some_long w is.some) (omega (arith, digits_value_short own w 7 is.digits is.few))
