-- Which words after `sample` can begin those with a number.
use Rattle.std.proofs.Common.{◌≡◌, ℕ, ◌+◌, ◌≤◌, ◌<◌, List, [], ◌∷◌, ◌++◌, length, take, refl, subst, ap, arith, add-one}
use Rattle.std.specs.Prelude.{codes}
use Rattle.command_line.proofs.Commands.{letter}
use Rattle.command_line.specs.Words.{Asked, list, upgrade, serve, count, sample, IsSampleNumber, AskFor, CanBegin, IsFirstWrong}

-- the words after `sample` are its number
pub record IsNumbered (ws : List (List ℕ)) : Type 0 where
  pub word : List ℕ
  pub number : ℕ
  pub is : IsSampleNumber word number
  pub alone : ws ≡ word ∷ []

numbered_by : (ws : List (List ℕ)) (asked : Asked) → AskFor asked (codes "sample" ∷ ws) → IsNumbered ws
numbered_by ws list e = absurd cc
numbered_by ws upgrade e = absurd cc
numbered_by ws (serve told pairs workers) a = let other : 97 ≡ 101 = ap letter a.2 in absurd (omega (arith, other))
numbered_by ws (count name) a = let other : 97 ≡ 111 = ap letter a.2 in absurd (omega (arith, other))
numbered_by ws (sample n) a =
    let e = a.2 in
    let same : ws ≡ a.0 ∷ [] = cc in
    record { word = a.0; number = n; is = a.1; alone = same }

-- words that are no number, the first of which can begin one and with the next one can't
sample-wrong : (ws : List (List ℕ)) (place : ℕ) → place ≤ length ws → CanBegin (codes "sample" ∷ take place ws) → (place < length ws → (more : List (List ℕ)) → IsNumbered (take (place + 1) ws ++ more) → ⊥) → (IsNumbered ws → ⊥) → IsFirstWrong (codes "sample" ∷ ws) (place + 1)
sample-wrong ws place within begins wrong nothing = record {
  within = omega (arith, within);
  begins = rw (add-one place) begins;
  wrong = λ l b.
      let next : CanBegin (codes "sample" ∷ take (place + 1) ws) = rw (add-one (place + 1)) at b in
      wrong (omega (arith, l)) next.more (numbered_by (take (place + 1) ws ++ next.more) next.asked next.ask);
  nothing = λ asked a. nothing (numbered_by ws asked a);
}

a-number : IsSampleNumber (codes "1") 1
a-number = record {
  written = record { some = λ e. cc; few = omega arith; digits = refl };
  value = refl;
  small = omega arith;
}

begins-sample : CanBegin (codes "sample" ∷ [])
begins-sample = record { more = codes "1" ∷ []; asked = sample 1; ask = (codes "1", a-number, refl) }

begins-number : (w : List ℕ) (n : ℕ) → IsSampleNumber w n → CanBegin (codes "sample" ∷ w ∷ [])
begins-number w n is = record { more = []; asked = sample n; ask = (w, is, refl) }

-- `sample` alone
no-number : IsNumbered [] → ⊥
no-number h = let e = h.alone in cc

pub number-missing : IsFirstWrong (codes "sample" ∷ []) 1
number-missing = sample-wrong [] 0 (omega arith) begins-sample (λ l. absurd (omega (arith, l))) no-number

-- what is no number
no-such : (w : List ℕ) (ws : List (List ℕ)) → ((n : ℕ) → IsSampleNumber w n → ⊥) → IsNumbered (w ∷ ws) → ⊥
no-such w ws other h =
    let e = h.alone in
    let same : h.word ≡ w = cc in
    other h.number (subst (λ x. IsSampleNumber x h.number) same h.is)

pub number-wrong : (w : List ℕ) (ws : List (List ℕ)) → ((n : ℕ) → IsSampleNumber w n → ⊥) → IsFirstWrong (codes "sample" ∷ w ∷ ws) 1
number-wrong w ws other = sample-wrong (w ∷ ws) 0 (omega arith) begins-sample (λ _ more. no-such w more other) (no-such w ws other)

-- a word after the number
no-after : (w v : List ℕ) (ws : List (List ℕ)) → IsNumbered (w ∷ v ∷ ws) → ⊥
no-after w v ws h = let e = h.alone in cc

pub number-more : (w : List ℕ) (n : ℕ) (v : List ℕ) (ws : List (List ℕ)) → IsSampleNumber w n → IsFirstWrong (codes "sample" ∷ w ∷ v ∷ ws) 2
number-more w n v ws is = sample-wrong (w ∷ v ∷ ws) 1 (omega arith) (begins-number w n is) (λ _ more. no-after w v more) (no-after w v ws)
