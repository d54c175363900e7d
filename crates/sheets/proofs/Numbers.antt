-- What `parse` gives for a number of one to nine digits.
use Rattle.std.proofs.Common.{rules, ◌≡◌, ℕ, ◌<◌, ◌≤◌, List, length, arith, refl, Bool, true, false, ◌&&◌, Result, Ok, Err}
use Rattle.std.specs.Prelude.{nat_le}
use Rattle.std.specs.Str.{all_ascii_digits}
use Rattle.std.specs.Str.Parse.{ParsesUnsigned, digits_value, digits_value_after}
use Rattle.std.proofs.lemmas.Str.Parse.{IsNumeralModel, numerals_by_fold, parse_gives, digits_value_short}
use Rattle.sheets.specs.Words.{is_number}

pub own : IsNumeralModel (λ ds. all_ascii_digits ds ≡ true) (digits_value 10)
own = numerals_by_fold _ (search rules) (digits_value_after 10) (search rules)

parts : (a b c : Bool) → ((a && b) && c) ≡ true → (a ≡ true) × (b ≡ true) × (c ≡ true)
parts true true true e = (refl, refl, refl)
parts true true false e = absurd cc
parts true false c e = absurd cc
parts false b c e = absurd cc

within : (m n : ℕ) → nat_le m n ≡ true → m ≤ n
within m n e = search rules

value : {E : Type 0} (w : List ℕ) (r : Result ℕ E) → ParsesUnsigned 32 10 w r → is_number w ≡ true → r ≡ Ok (digits_value 10 w)
unfolding is_number
value w r h e =
    let p = parts (nat_le 1 (length w)) (nat_le (length w) 9) (all_ascii_digits w) e in
    let some : 0 < length w = omega (arith, within 1 (length w) p.0) in
    parse_gives own 32 w r h p.2 some (omega (arith, digits_value_short own w 9 p.2 (within (length w) 9 p.1)))

not_both : {E : Type 0} (r : Result ℕ E) (n m : ℕ) (x : E) → r ≡ Ok n → r ≡ Err x → 0 ≡ m
not_both r n m x e is = absurd cc

pub value-ok : {E : Type 0} (w : List ℕ) (r : Result ℕ E) (n : ℕ) → ParsesUnsigned 32 10 w r → is_number w ≡ true → r ≡ Ok n → n ≡ digits_value 10 w
value-ok w r n h e is =
    let o = value w r h e in cc

pub value-err : {E : Type 0} (w : List ℕ) (r : Result ℕ E) (x : E) → ParsesUnsigned 32 10 w r → is_number w ≡ true → r ≡ Err x → 0 ≡ digits_value 10 w
value-err w r x h e is = not_both r (digits_value 10 w) (digits_value 10 w) x (value w r h e) is

pub ruleset values = (value-ok, value-err)
