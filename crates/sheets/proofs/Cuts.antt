-- Lines and words put together, and cut apart again.
use Rattle.std.proofs.Common.{◌≡◌, ◌∙◌, sym, ap, ℕ, suc, zero, ◌+◌, ◌-◌, ◌<◌, ◌≤◌, List, [], ◌∷◌, ◌++◌, length, take, get_or, arith, refl, Bool, true, false, ◌&&◌, ◌||◌, not, ◌==◌, if◌then◌else◌, append_assoc, append-nil}
use Rattle.std.specs.List.{flat_map, list_all, list_any, slice_split, All, AllPass}
use Rattle.std.specs.Prelude.{count_by, slice_index_or}
use Rattle.std.specs.Str.Lines.{lines, lines_of_parts, strip_carriage_return}
use Rattle.std.proofs.lemmas.List.Splits.{slice_split_at, slice_split_none, length-slice_split}
use Rattle.std.proofs.lemmas.List.Sums.{AllPass-from_list_all}
use Rattle.std.proofs.lemmas.List.Folds.{list_all-append}
use Rattle.sheets.specs.Words.{words_of, is_word}
use Rattle.sheets.specs.Writing.{spaced, line_text, ended, is_plain}

-- a byte that ends no line, and one that ends no word
abbrev pub is_inner : ℕ → Bool
is_inner b = not (b == 13) && not (b == 10)

abbrev pub is_dark : ℕ → Bool
is_dark b = not (b == 32)

pub both : (a b : Bool) → (a && b) ≡ true → (a ≡ true) × (b ≡ true)
both true true e = (refl, refl)
both true false e = absurd cc
both false b e = absurd cc

pub of-both : (a b : Bool) → a ≡ true → b ≡ true → (a && b) ≡ true
of-both a b e h = rw (e, h) refl

neither : (a b : Bool) → (a || b) ≡ false → (a ≡ false) × (b ≡ false)
neither true b e = absurd cc
neither false true e = absurd cc
neither false false e = (refl, refl)

pub not-true : (b : Bool) → not b ≡ true → b ≡ false
not-true true e = absurd cc
not-true false e = refl

pub of-false : (b : Bool) → b ≡ false → not b ≡ true
of-false true e = absurd cc
of-false false e = refl

-- a test that follows from another
pub all-weaker : {X : Type 0} (p q : X → Bool) (xs : List X) → ((x : X) → p x ≡ true → q x ≡ true) → list_all p xs ≡ true → list_all q xs ≡ true
all-weaker p q [] f h = refl
all-weaker p q (x ∷ xs) f h =
    let k = both (p x) (list_all p xs) h in
    of-both (q x) (list_all q xs) (f x k.0) (all-weaker p q xs f k.1)

pub all-append : {X : Type 0} (p : X → Bool) (xs ys : List X) → list_all p xs ≡ true → list_all p ys ≡ true → list_all p (xs ++ ys) ≡ true
all-append p xs ys h k = list_all-append p xs ys ∙ of-both (list_all p xs) (list_all p ys) h k

-- no element of a list is this byte
lacks : (c : ℕ) (xs : List ℕ) → list_all (λ b. not (b == c)) xs ≡ true → All (λ b. (b == c) ≡ false) xs
lacks c xs h k d l = not-true (slice_index_or xs k d == c) (AllPass-from_list_all (λ b. not (b == c)) xs h k d l)

inner-first : (b : ℕ) → is_inner b ≡ true → (b == 13) ≡ false
inner-first b h = not-true (b == 13) (both (not (b == 13)) (not (b == 10)) h).0

inner-feed : (b : ℕ) → is_inner b ≡ true → not (b == 10) ≡ true
inner-feed b h = (both (not (b == 13)) (not (b == 10)) h).1

-- a line that doesn't end with a carriage return keeps all
last-inner : (x : ℕ) (l : List ℕ) → list_all is_inner (x ∷ l) ≡ true → (get_or (x ∷ l) (length l) 0 == 13) ≡ false
last-inner x [] h = inner-first x (both (is_inner x) true h).0
last-inner x (y ∷ l) h = last-inner y l (both (is_inner x) (list_all is_inner (y ∷ l)) h).1

stripped : (l : List ℕ) → list_all is_inner l ≡ true → strip_carriage_return l ≡ l
stripped [] h = refl
stripped (x ∷ l) h =
    let at : length (x ∷ l) - 1 ≡ length l = omega arith in
    rw (at, last-inner x l h) refl

lines-more : (l : List ℕ) (rest : List (List ℕ)) → 0 < length rest → lines_of_parts (l ∷ rest) ≡ strip_carriage_return l ∷ lines_of_parts rest
lines-more l [] some = absurd (omega (arith, some))
lines-more l (x ∷ rest) some = refl

-- the lines of lines with their ends
pub lines-ended : (ls : List (List ℕ)) → list_all (list_all is_inner) ls ≡ true → lines (flat_map ended ls) ≡ ls
lines-ended [] h = refl
lines-ended (l ∷ ls) h =
    let k = both (list_all is_inner l) (list_all (list_all is_inner) ls) h in
    let rest = flat_map ended ls in
    let open_line = all-weaker is_inner (λ b. not (b == 10)) l inner-feed k.0 in
    ap lines (append_assoc l (10 ∷ []) rest)
    ∙ ap lines_of_parts (slice_split_at (λ b. b == 10) l 10 rest (lacks 10 l open_line) refl)
    ∙ lines-more l (slice_split (λ b. b == 10) rest) (omega (arith, length-slice_split (λ b. b == 10) rest))
    ∙ ap (λ x. x ∷ lines rest) (stripped l k.0)
    ∙ ap (λ xs. l ∷ xs) (lines-ended ls k.1)

-- the words of words with spaces between them
pub words-line : (w : List ℕ) (ws : List (List ℕ)) → list_all (list_all is_dark) (w ∷ ws) ≡ true → words_of (line_text w ws) ≡ w ∷ ws
words-line w [] h = ap words_of (append-nil w) ∙ slice_split_none (λ b. b == 32) w (lacks 32 w (both (list_all is_dark w) true h).0)
words-line w (x ∷ xs) h =
    let k = both (list_all is_dark w) (list_all (list_all is_dark) (x ∷ xs)) h in
    slice_split_at (λ b. b == 32) w 32 (x ++ flat_map spaced xs) (lacks 32 w k.0) refl ∙ ap (λ ys. w ∷ ys) (words-line x xs k.1)

-- what a word has
pub plain-word : (w : List ℕ) → is_plain w ≡ true → is_word w ≡ true
unfolding is_plain
plain-word w h = (both (is_word w) (list_all (λ b. not (b == 32) && not (b == 10)) w) h).0

pub plain-dark : (w : List ℕ) → is_plain w ≡ true → list_all is_dark w ≡ true
unfolding is_plain
plain-dark w h =
    let inner = (both (is_word w) (list_all (λ b. not (b == 32) && not (b == 10)) w) h).1 in
    all-weaker (λ b. not (b == 32) && not (b == 10)) is_dark w (λ b k. (both (not (b == 32)) (not (b == 10)) k).0) inner

no-return : (w : List ℕ) → list_any (λ b. b == 13) w ≡ false → list_all (λ b. not (b == 32) && not (b == 10)) w ≡ true → list_all is_inner w ≡ true
no-return [] h k = refl
no-return (b ∷ w) h k =
    let a = neither (b == 13) (list_any (λ c. c == 13) w) h in
    let e = both (not (b == 32) && not (b == 10)) (list_all (λ c. not (c == 32) && not (c == 10)) w) k in
    let d = both (not (b == 32)) (not (b == 10)) e.0 in
    of-both (is_inner b) (list_all is_inner w) (of-both (not (b == 13)) (not (b == 10)) (of-false (b == 13) a.0) d.1) (no-return w a.1 e.1)

pub plain-inner : (w : List ℕ) → is_plain w ≡ true → list_all is_inner w ≡ true
unfolding is_plain is_word
plain-inner w h =
    let k = both (is_word w) (list_all (λ b. not (b == 32) && not (b == 10)) w) h in
    let some = both (not (length w == 0)) (not (list_any (λ b. b == 13) w)) k.0 in
    no-return w (not-true (list_any (λ b. b == 13) w) some.1) k.1

-- lists of words
pub all-words : (ws : List (List ℕ)) → list_all is_plain ws ≡ true → list_all is_word ws ≡ true
all-words ws h = all-weaker is_plain is_word ws plain-word h

pub all-dark : (ws : List (List ℕ)) → list_all is_plain ws ≡ true → list_all (list_all is_dark) ws ≡ true
all-dark ws h = all-weaker is_plain (list_all is_dark) ws plain-dark h

spaced-inner : (ws : List (List ℕ)) → list_all is_plain ws ≡ true → list_all is_inner (flat_map spaced ws) ≡ true
spaced-inner [] h = refl
spaced-inner (w ∷ ws) h =
    let k = both (is_plain w) (list_all is_plain ws) h in
    all-append is_inner w (flat_map spaced ws) (plain-inner w k.0) (spaced-inner ws k.1)

-- a line of words has no end in it
pub line-inner : (w : List ℕ) (ws : List (List ℕ)) → list_all is_plain (w ∷ ws) ≡ true → list_all is_inner (line_text w ws) ≡ true
line-inner w ws h =
    let k = both (is_plain w) (list_all is_plain ws) h in
    all-append is_inner w (flat_map spaced ws) (plain-inner w k.0) (spaced-inner ws k.1)
