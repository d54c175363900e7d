-- A run of `p` is an identifier.
use Rattle.std.proofs.Common.{◌≡◌, ◌∙◌, sym, ap, refl, arith, rules, tests, lit<, ℕ, zero, suc, ◌<◌, ◌≤◌, ◌==◌, not, Bool, true, false, List, [], ◌∷◌, chars, replicate, IsUtf8}
use Rattle.std.specs.List.{list_all}
use Rattle.std.specs.Char.{is_ascii}
use Rattle.std.specs.Str.{IsAscii}
use Rattle.std.proofs.lemmas.Bool.{false≢true, and_parts, and_from, not_from_false, false_from_ne_true}
use Rattle.std.proofs.lemmas.Str.{chars-IsAscii, IsUtf8-from_ascii}
use Rattle.java_tokens.specs.Words.{is_ascii_word, is_ascii_word_part}
use Rattle.java_units.specs.Signs.{has, reserved}
use Rattle.java_units.specs.Identifiers.{is_ascii_identifier}
use Rattle.java_units.proofs.IdentifierLaws.{ascii_identifiers}
use Rattle.java_shapes.specs.Words.{spells_identifier, literals}
use Rattle.java_shapes.proofs.Identifiers.{same_identifiers}
use Rattle.java_shapes.proofs.WordFacts.{has_passes}
use Rattle.hole_texts.proofs.Binders.{letters-ascii}

all-letters : (p : ℕ → Bool) → p 112 ≡ true → (n : ℕ) → list_all p (replicate n 112) ≡ true
all-letters p e zero = refl
all-letters p e (suc n) = and_from (p 112) (list_all p (replicate n 112)) e (all-letters p e n)

-- each reserved word has another letter
others : list_all (λ w. not (list_all (λ c. c == 112) w)) reserved ≡ true
unfolding reserved
others = refl

not-reserved : (n : ℕ) → has reserved (replicate n 112) ≡ false
not-reserved n = false_from_ne_true (has reserved (replicate n 112)) (λ e.
    let h = has_passes (λ w. not (list_all (λ c. c == 112) w)) reserved (replicate n 112) others e in
    false≢true (sym (ap not (all-letters (λ c. c == 112) refl n)) ∙ h))

ascii-run : (n : ℕ) → 1 ≤ n → is_ascii_identifier (replicate n 112) ≡ true
unfolding is_ascii_identifier
ascii-run zero l = absurd (omega (arith, l))
ascii-run (suc n) l = and_from (is_ascii_word (112 ∷ replicate n 112)) (not (has reserved (112 ∷ replicate n 112))) (all-letters is_ascii_word_part refl n) (not_from_false (has reserved (112 ∷ replicate n 112)) (not-reserved (suc n)))

pub run-utf8 : (n : ℕ) → IsUtf8 (replicate n 112)
run-utf8 n = IsUtf8-from_ascii (replicate n 112) (letters-ascii n)

pub run-identifier : (n : ℕ) → 1 ≤ n → spells_identifier (chars (replicate n 112)) ≡ true
run-identifier n l = same_identifiers (replicate n 112) (run-utf8 n) ∙ ascii_identifiers (replicate n 112) (all-letters is_ascii refl n) ∙ ascii-run n l

-- literals are ASCII
below : (c : ℕ) → is_ascii c ≡ true → c < 128
below c e = search (rules, tests)

pub all-below : (cs : List ℕ) → list_all is_ascii cs ≡ true → IsAscii cs
all-below [] e zero = lit< tt
all-below [] e (suc i) = lit< tt
all-below (c ∷ cs) e zero = below c (and_parts (is_ascii c) (list_all is_ascii cs) e).0
all-below (c ∷ cs) e (suc i) = all-below cs (and_parts (is_ascii c) (list_all is_ascii cs) e).1 i

pub literal-same : (w : List ℕ) → has literals w ≡ true → chars w ≡ w
literal-same w h = chars-IsAscii w (all-below w (has_passes (λ x. list_all is_ascii x) literals w refl h))
