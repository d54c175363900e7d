-- Walks over words.
use Rattle.std.proofs.Common.{◌≡◌, ◌∙◌, sym, ap, ℕ, suc, zero, ◌<◌, ◌≤◌, List, [], ◌∷◌, length, drop, take, arith, ◌-◌, length-drop, refl, get_or}
use Rattle.std.proofs.lemmas.List.{drop_all, take_all}
use Rattle.sheets.specs.Words.{texts, word}
use denote.Ref.{Bor}

-- the word at a place that is there, and one that isn't
pub word-at : (ws : List (Bor (List ℕ))) (n : ℕ) (d : Bor (List ℕ)) → n < length ws → (get_or ws n d).now ≡ word (texts ws) n
unfolding word
word-at [] n d l = absurd (omega (arith, l))
word-at (w ∷ ws) zero d l = refl
word-at (w ∷ ws) (suc n) d l = word-at ws n d (omega (arith, l))

pub word-past : (ws : List (Bor (List ℕ))) (n : ℕ) → length ws ≤ n → [] ≡ word (texts ws) n
unfolding word
word-past [] n l = refl
word-past (w ∷ ws) zero l = absurd (omega (arith, l))
word-past (w ∷ ws) (suc n) l = word-past ws n (omega (arith, l))

-- parts of a list of words
dropped : (n : ℕ) (ws : List (Bor (List ℕ))) → texts (drop n ws) ≡ drop n (texts ws)
dropped zero ws = refl
dropped (suc n) [] = refl
dropped (suc n) (w ∷ ws) = dropped n ws

taken : (n : ℕ) (ws : List (Bor (List ℕ))) → texts (take n ws) ≡ take n (texts ws)
taken zero ws = refl
taken (suc n) [] = refl
taken (suc n) (w ∷ ws) = ap (λ xs. w.now ∷ xs) (taken n ws)

pub texts-length : (ws : List (Bor (List ℕ))) → length (texts ws) ≡ length ws
texts-length [] = refl
texts-length (w ∷ ws) = ap suc (texts-length ws)

pub texts-drop : (ws : List (Bor (List ℕ))) (n : ℕ) → texts (drop n ws) ≡ drop n (texts ws)
texts-drop ws n = dropped n ws

pub texts-none : (ws : List (Bor (List ℕ))) (n : ℕ) → length ws < n → [] ≡ drop n (texts ws)
texts-none ws n l = sym (drop_all n (texts ws) (omega (arith, texts-length ws, l)))

pub texts-take : (ws : List (Bor (List ℕ))) (n : ℕ) → texts (take n ws) ≡ take n (texts ws)
texts-take ws n = taken n ws

pub texts-all : (ws : List (Bor (List ℕ))) (n : ℕ) → length ws < n → texts ws ≡ take n (texts ws)
texts-all ws n l = sym (take_all n (texts ws) (omega (arith, texts-length ws, l)))

pub word-get : (ws : List (List ℕ)) (n : ℕ) → word ws n ≡ get_or ws n []
unfolding word
word-get [] n = refl
word-get (w ∷ ws) zero = refl
word-get (w ∷ ws) (suc n) = word-get ws n

pub texts-rest : (ws : List (Bor (List ℕ))) (n : ℕ) → texts (take (length ws - n) (drop n ws)) ≡ drop n (texts ws)
texts-rest ws n = ap texts (take_all (length ws - n) (drop n ws) (omega (arith, length-drop n ws))) ∙ dropped n ws

pub ruleset words = (texts-rest, word-at, word-past, texts-drop, texts-none, texts-take, texts-all, texts-length)
