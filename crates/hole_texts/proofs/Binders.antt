-- The binder of an environment makes no variable of its words.
use Rattle.std.proofs.Common.{◌≡◌, ◌≢◌, ◌∙◌, ◌⊎◌, inl, inr, sym, ap, subst, refl, arith, rules, tests, lit<, ℕ, zero, suc, ◌+◌, ◌<◌, ◌≤◌, ◌==◌, not, nat_le, if◌then◌else◌, Bool, true, false, List, [], ◌∷◌, length, map, replicate, bytes_eq, unwrap_or, chars, IsUtf8, Some}
use Rattle.std.specs.List.{AllByRecursion, list_all, list_any}
use Rattle.std.specs.Str.{IsAscii}
use Rattle.std.proofs.lemmas.Bool.{false≢true, and_parts, or_parts, not-true, not-false, eqb-true, leb-true}
use Rattle.std.proofs.lemmas.List.{length-map}
use Rattle.std.proofs.lemmas.Str.{chars-IsAscii, encodes-IsAscii, encodes-chars}
use Rattle.java_tokens.specs.Classes.{is_digit}
use Rattle.class_summary.specs.Names.{first_from}
use Rattle.java_shapes.specs.Words.{are_digits, is_binder}
use Rattle.scopes.specs.Binders.{is_variable, binder_of, run_of}
use Rattle.scopes.proofs.Runs.{any_run}
use Rattle.hole_texts.proofs.Picks.{too-short}

-- the first number that passes, if one does
pub record IsFound (n i : ℕ) (test : ℕ → Bool) : Type 0 where
  pub at : ℕ
  pub is : first_from n i test ≡ Some at
  pub low : i ≤ at
  pub passes : test at ≡ true

abbrev NonePass : ℕ → ℕ → (ℕ → Bool) → Type 0
NonePass n i test = (m : ℕ) → i ≤ m → m < i + n → test m ≡ false

first-step : (n i : ℕ) (test : ℕ → Bool) → first_from (suc n) i test ≡ (if test i then Some i else first_from n (suc i) test)
unfolding first_from
first-step n i test = refl

first-case : (n i : ℕ) (test : ℕ → Bool) (b : Bool) → test i ≡ b → IsFound n (suc i) test ⊎ NonePass n (suc i) test → IsFound (suc n) i test ⊎ NonePass (suc n) i test
first-case n i test true e h = inl (record { at = i; is = first-step n i test ∙ rw e refl; low = omega arith; passes = e })
first-case n i test false e (inl f) = inl (record { at = f.at; is = first-step n i test ∙ rw e f.is; low = omega (arith, f.low); passes = f.passes })
first-case n i test false e (inr f) = inr (λ m a b. here m a b (m == i) refl)
  where
    here : (m : ℕ) → i ≤ m → m < i + suc n → (c : Bool) → (m == i) ≡ c → test m ≡ false
    here m a b true q = ap test (eqb-true m i q) ∙ e
    here m a b false q = let d : m ≢ i = search (rules, tests) in f m (omega (arith, a, d)) (omega (arith, b))

first-cases : (n i : ℕ) (test : ℕ → Bool) → IsFound n i test ⊎ NonePass n i test
first-cases zero i test = inr (λ m a b. absurd (omega (arith, a, b)))
first-cases (suc n) i test = first-case n i test (test i) refl (first-cases n (suc i) test)

none-of : {A : Type 0} (p : A → Bool) (xs : List A) → list_any p xs ≡ false → AllByRecursion (λ x. p x ≡ false) xs
none-of p [] h = search rules
none-of p (x ∷ xs) h = let k = or_parts (p x) (list_any p xs) h in (k.0, none-of p xs k.1)

-- a run of `p` that makes no variable of these words
pub record IsRun (ws : List (List ℕ)) : Type 0 where
  pub count : ℕ
  pub some : 1 ≤ count
  pub is : binder_of ws ≡ replicate count 112
  pub free : AllByRecursion (λ w. is_variable count w ≡ false) ws

pub run-of : (ws : List (List ℕ)) → IsRun ws
unfolding binder_of
run-of ws =
    let test : ℕ → Bool = λ n. not (list_any (is_variable n) ws) in
    elim (first-cases (suc (length ws)) 1 test) [
      | inl f ↦ record {
        count = f.at;
        some = f.low;
        is = ap (λ o. replicate (unwrap_or o 1) 112) f.is;
        free = none-of (is_variable f.at) ws (not-true (list_any (is_variable f.at) ws) f.passes);
      }
      | inr f ↦ absurd (too-short (suc (length ws)) 1 (map run_of ws) (omega (arith, length-map ws run_of)) (λ m a b. sym (any_run m (omega (arith, a)) ws) ∙ not-false (list_any (is_variable m) ws) (f m a b)))
    ]

-- a binder of characters is a variable
variable-zero : (w : List ℕ) → are_digits w ≡ true → is_variable 0 w ≡ true
unfolding is_variable are_digits
variable-zero [] h = absurd (false≢true h)
variable-zero (c ∷ cs) h = let s : bytes_eq (c ∷ cs) (c ∷ cs) ≡ true = search rules in rw s h

variable-next : (m : ℕ) (cs : List ℕ) → is_variable (suc m) (112 ∷ cs) ≡ is_variable m cs
unfolding is_variable
variable-next m cs = refl

pub binder-variable : (n : ℕ) (cs : List ℕ) → is_binder (replicate n 112) cs ≡ true → is_variable n cs ≡ true
unfolding is_binder
binder-variable zero cs h = variable-zero cs h
binder-variable (suc n) [] h = absurd (false≢true h)
binder-variable (suc n) (c ∷ cs) h =
    let k = and_parts (112 == c) (is_binder (replicate n 112) cs) h in
    subst (λ x. is_variable (suc n) (x ∷ cs) ≡ true) (eqb-true 112 c k.0) (variable-next n cs ∙ binder-variable n cs k.1)

ascii-cons : (c : ℕ) (cs : List ℕ) → c < 128 → IsAscii cs → IsAscii (c ∷ cs)
ascii-cons c cs l h zero = l
ascii-cons c cs l h (suc i) = h i

ascii-nil : IsAscii []
ascii-nil zero = lit< tt
ascii-nil (suc i) = lit< tt

digit-low : (c : ℕ) → is_digit c ≡ true → c < 128
unfolding is_digit
digit-low c h = let k = leb-true c 57 (and_parts (nat_le 48 c) (nat_le c 57) h).1 in omega (arith, k)

digits-ascii : (cs : List ℕ) → list_all is_digit cs ≡ true → IsAscii cs
digits-ascii [] h = ascii-nil
digits-ascii (c ∷ cs) h = let k = and_parts (is_digit c) (list_all is_digit cs) h in ascii-cons c cs (digit-low c k.0) (digits-ascii cs k.1)

number-ascii : (cs : List ℕ) → are_digits cs ≡ true → IsAscii cs
unfolding are_digits
number-ascii [] h = ascii-nil
number-ascii (c ∷ cs) h = digits-ascii (c ∷ cs) h

binder-ascii : (n : ℕ) (cs : List ℕ) → is_binder (replicate n 112) cs ≡ true → IsAscii cs
unfolding is_binder
binder-ascii zero cs h = number-ascii cs h
binder-ascii (suc n) [] h = absurd (false≢true h)
binder-ascii (suc n) (c ∷ cs) h =
    let k = and_parts (112 == c) (is_binder (replicate n 112) cs) h in
    subst (λ x. IsAscii (x ∷ cs)) (eqb-true 112 c k.0) (ascii-cons 112 cs (lit< tt) (binder-ascii n cs k.1))

pub letters-ascii : (n : ℕ) → IsAscii (replicate n 112)
letters-ascii zero = ascii-nil
letters-ascii (suc n) = ascii-cons 112 (replicate n 112) (lit< tt) (letters-ascii n)

-- a word that is no variable is no binder
pub no-binder : (n : ℕ) (w : List ℕ) → IsUtf8 w → is_variable n w ≡ false → is_binder (chars (replicate n 112)) (chars w) ≡ true → ⊥
no-binder n w u v h =
    let k : is_binder (replicate n 112) (chars w) ≡ true = subst (λ z. is_binder z (chars w) ≡ true) (chars-IsAscii (replicate n 112) (letters-ascii n)) h in
    let same : chars w ≡ w = sym (encodes-IsAscii (chars w) (binder-ascii n (chars w) k)) ∙ encodes-chars w u in
    false≢true (sym v ∙ subst (λ z. is_variable n z ≡ true) same (binder-variable n (chars w) k))
