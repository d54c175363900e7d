-- Numbers and heads.
use Rattle.std.proofs.Common.{◌≡◌, ℕ, zero, suc, ◌+◌, ◌*◌, refl, ap, ◌∙◌, arith}
use Rattle.terms.specs.Reading.{Symbol, variable, declared, next_symbol, symbol}

pub symbol-even : (n : ℕ) → symbol (2 * n) ≡ variable n
unfolding symbol
symbol-even zero = refl
symbol-even (suc n) =
    let e : 2 * suc n ≡ suc (suc (2 * n)) = omega arith in
    rw e (ap next_symbol (symbol-even n))

pub symbol-odd : (n : ℕ) → symbol (2 * n + 1) ≡ declared n
unfolding symbol
symbol-odd zero = refl
symbol-odd (suc n) =
    let e : 2 * suc n + 1 ≡ suc (suc (2 * n + 1)) = omega arith in
    rw e (ap next_symbol (symbol-odd n))

-- the number of a head
abbrev pub number : Symbol → ℕ
number (variable n) = 2 * n
number (declared d) = 2 * d + 1

next_number : (s : Symbol) → number (next_symbol s) ≡ suc (suc (number s))
next_number (variable n) = omega arith
next_number (declared d) = omega arith

pub number-symbol : (n : ℕ) → number (symbol n) ≡ n
unfolding symbol
number-symbol zero = refl
number-symbol (suc zero) = refl
number-symbol (suc (suc n)) = next_number (symbol n) ∙ ap (λ m. suc (suc m)) (number-symbol n)
