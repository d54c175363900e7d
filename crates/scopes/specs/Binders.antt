-- What the variables of lambdas are called.
use Rattle.std.specs.Prelude.{◌≡◌, ◌<◌, get_or, ℕ, suc, ◌+◌, Bool, false, ◌&&◌, ◌||◌, not, ◌==◌, if◌then◌else◌, List, [], ◌∷◌, ◌++◌, length, replicate, drop, bytes_eq, unwrap_or}
use Rattle.std.specs.List.{list_any, list_all, flat_map, slice_split}
use Rattle.terms.specs.declared.parts.Form.{Form}
use Rattle.terms.specs.declared.parts.Form.TheVariants as form
use Rattle.java_tokens.specs.Classes.{is_digit}
use Rattle.class_summary.specs.Names.{first_from}

-- The text of a form.
abbrev pub form_text : Form → List ℕ
form_text (form.Name s) = s
form_text form.This = []
form_text (form.Call s) = s
form_text (form.New s) = s
form_text (form.Method s) = s
form_text (form.Field s hidden) = s
form_text (form.Lambda s) = s

-- The identifiers in a text, between dots and square brackets.
abbrev pub is_between : ℕ → Bool
is_between b = (b == 46 || b == 91) || b == 93

abbrev pub words : List (List ℕ) → List (List ℕ)
words texts = flat_map (slice_split is_between) texts

-- One decimal digit or more.
abbrev pub is_digits : List ℕ → Bool
is_digits [] = false
is_digits (b ∷ bs) = list_all is_digit (b ∷ bs)

-- n times `p`, and digits.
unfoldable pub is_variable : ℕ → List ℕ → Bool
is_variable n text = bytes_eq (replicate n 112 ++ drop n text) text && is_digits (drop n text)

-- The shortest run of `p` that makes no variable of these words; each word forbids one length at most.
unfoldable pub binder_of : List (List ℕ) → List ℕ
binder_of ws = replicate (unwrap_or (first_from (suc (length ws)) 1 (λ n. not (list_any (is_variable n) ws))) 1) 112

-- How many letters `p` stand before the digits of a word that consists of both, 0 for other words.
unfoldable pub run_from : ℕ → List ℕ → ℕ
run_from k [] = 0
run_from k (c ∷ cs) = if c == 112 then run_from (k + 1) cs else if is_digits (c ∷ cs) then k else 0

abbrev pub run_of : List ℕ → ℕ
run_of word = run_from 0 word

-- Each mark stands where it stood, and at each of these numbers.
pub record IsMarked (runs : List ℕ) (old marks : List Bool) : Type 0 where
  pub same : length marks ≡ length old
  pub each : (n : ℕ) → n < length old → get_or marks n false ≡ (get_or old n false || list_any (λ r. r == n) runs)

-- The least number from 1 on that isn't among these, as far as there are so many.
unfoldable pub free_of : List ℕ → ℕ
free_of runs = unwrap_or (first_from (suc (length runs)) 1 (λ n. not (list_any (λ r. r == n) runs))) 1
