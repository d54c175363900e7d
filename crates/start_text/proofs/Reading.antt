-- The files of a text's lines, one after the other.
use Rattle.std.proofs.Common.{◌≡◌, ◌∙◌, ap, sym, refl, arith, Bool, true, false, ℕ, ◌+◌, ◌<◌, ◌≤◌, List, [], ◌∷◌, ◌++◌, length, get_or, drop, Some, None}
use Rattle.std.specs.List.{enumerate_from, AllZip, slice_get, slice_split}
use Rattle.std.specs.Prelude.{if◌then◌else◌, ◌==◌}
use Rattle.std.specs.Str.Lines.{lines, lines_of_parts}
use Rattle.std.proofs.lemmas.List.{at_drop_more, at_drop_all}
use Rattle.std.proofs.lemmas.List.Elements.{filter-append}
use Rattle.std.proofs.lemmas.List.Splits.{length-slice_split}
use Rattle.std.proofs.lemmas.List.Sums.{count_by-le-length}
use Rattle.start_text.specs.Lines.{is_path, paths_among}

one : (b : Bool) (x : List ℕ) → length (if b then [] else x ∷ []) ≤ 1
one true x = omega arith
one false x = omega arith

parts-few : (parts : List (List ℕ)) → length (lines_of_parts parts) ≤ length parts
parts-few [] = omega arith
parts-few (x ∷ []) = one (length x == 0) x
parts-few (x ∷ y ∷ more) = omega (arith, parts-few (y ∷ more))

-- There is at most one line more than there are bytes.
pub lines-few : (text : List ℕ) → length (lines text) ≤ length text + 1
lines-few text = omega (arith, parts-few (slice_split (λ b. b == 10) text), length-slice_split (λ b. b == 10) text, count_by-le-length (λ b. b == 10) text)

pub head-none : {X : Type 0} (xs ys : List X) → slice_get xs 0 ≡ None → slice_get (xs ++ ys) 0 ≡ slice_get ys 0
head-none [] ys e = refl
head-none (x ∷ xs) ys e = cc

pub head-some : {X : Type 0} (xs ys : List X) (x : X) → slice_get xs 0 ≡ Some x → slice_get (xs ++ ys) 0 ≡ Some x
head-some [] ys x e = cc
head-some (z ∷ xs) ys x e = e

pub zip-append : {A B : Type 0} (R : A → B → Type 0) (xs us : List A) (ys vs : List B) → AllZip R xs ys → AllZip R us vs → AllZip R (xs ++ us) (ys ++ vs)
zip-append R [] us [] vs a b = b
zip-append R [] us (y ∷ ys) vs a b = absurd a
zip-append R (x ∷ xs) us [] vs a b = absurd a
zip-append R (x ∷ xs) us (y ∷ ys) vs a b = (a.0, zip-append R xs us ys vs a.1 b)

-- The path of one line, where it has one.
abbrev pub path_at : ℕ → List ℕ → List (ℕ × List ℕ)
path_at line path = paths_among ((line, path) ∷ [])

-- The paths after so many lines.
abbrev pub paths_after : List ℕ → ℕ → List (ℕ × List ℕ)
paths_after text i = paths_among (enumerate_from (i + 1) (drop i (lines text)))

-- One line more.
pub after-more : (text : List ℕ) (i : ℕ) (x : List ℕ) → i < length (lines text) → x ≡ get_or (lines text) i x → paths_after text i ≡ path_at (i + 1) x ++ paths_after text (i + 1)
after-more text i x l e =
    let F = λ (ls : List (List ℕ)). paths_among (enumerate_from (i + 1) ls) in
    at_drop_more F (lines text) i x l ∙ ap (λ (y : List ℕ). F (y ∷ drop (i + 1) (lines text))) (sym e) ∙ filter-append is_path ((i + 1, x) ∷ []) (enumerate_from (i + 1 + 1) (drop (i + 1) (lines text)))

-- After all lines.
pub after-all : (text : List ℕ) (i : ℕ) → length (lines text) ≤ i → paths_after text i ≡ []
after-all text i l = at_drop_all (λ (ls : List (List ℕ)). paths_among (enumerate_from (i + 1) ls)) (lines text) i l
