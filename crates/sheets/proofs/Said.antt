-- What the lines of an environment's sheet say, each by itself.
use Rattle.std.proofs.Common.{rules, ◌≡◌, ◌∙◌, sym, ap, ℕ, suc, zero, ◌+◌, ◌-◌, ◌<◌, ◌≤◌, ◌^◌, List, [], ◌∷◌, ◌++◌, length, take, drop, map, get_or, arith, refl, Bool, true, false, ◌&&◌, not, ◌==◌, if◌then◌else◌, append-nil, length-append}
use Rattle.std.specs.Prelude.{nat_le, codes, decimal, bytes_eq}
use Rattle.std.specs.List.{flat_map, list_all, list_any}
use Rattle.std.specs.Str.{all_ascii_digits}
use Rattle.std.specs.Char.{is_ascii_digit}
use Rattle.std.proofs.lemmas.Bool.{eqb-true}
use Rattle.std.proofs.lemmas.Fmt.{digits_value-decimal, digits_decimal, length-decimal-le, decimal_nonempty}
use Rattle.std.proofs.lemmas.List.{get_or-append-add, take-append-le}
use Rattle.std.proofs.Math.Seq.{take-append_seam}
use Rattle.sheets.specs.Words.{word, words_of, is_word, is_number, number}
use Rattle.sheets.specs.SheetLines.{Line, type_line, sub_line, decl_line, goal_line, number_line, binder_line, DeclWords, is_skipped, is_this, is_lambda, args_in, body_in, decl_words, decl_kind, of_newer, kind_by, kind_of, line_by, line_of}
use Rattle.sheets.specs.Writing.{spaced, line_text, is_plain, decl_head, word_text}
use Rattle.sheets.specs.declared.kind.FormWord.{FormWord}
use Rattle.sheets.specs.declared.kind.FormWord.TheVariants as form
use Rattle.sheets.specs.declared.kind.NumberWord.{NumberWord}
use Rattle.sheets.specs.declared.kind.NumberWord.TheVariants as number_word
use Rattle.sheets.specs.declared.kind.Version.{Version}
use Rattle.sheets.specs.declared.kind.Version.TheVariants.{One, Two}
use Rattle.sheets.specs.declared.kind.Kind.{Kind}
use Rattle.sheets.specs.declared.kind.Kind.TheVariants as kind
use Rattle.sheets.proofs.Numbers.{own}
use Rattle.sheets.proofs.Walks.{word-get}
use Rattle.sheets.proofs.Cuts.{both, of-both, of-false, not-true, all-words, all-dark, words-line}

le_true : (m n : ℕ) → m ≤ n → nat_le m n ≡ true
le_true m n l = search rules

-- a number in decimal
small : (n : ℕ) → n ≤ 999999999 → n < 2 ^ 64
small n l = omega (arith, l)

pub number-is : (n : ℕ) → n ≤ 999999999 → is_number (decimal n) ≡ true
unfolding is_number
number-is n l =
    let some : 0 < length (decimal n) = decimal_nonempty n (small n l) in
    let short : length (decimal n) ≤ 9 = length-decimal-le 9 n (omega arith) (omega (arith, l)) (small n l) in
    of-both (nat_le 1 (length (decimal n)) && nat_le (length (decimal n)) 9) (all_ascii_digits (decimal n))
    (of-both (nat_le 1 (length (decimal n))) (nat_le (length (decimal n)) 9) (le_true 1 (length (decimal n)) (omega (arith, some))) (le_true (length (decimal n)) 9 short))
    (digits_decimal own n (small n l))

pub number-back : (n : ℕ) → n ≤ 999999999 → number (decimal n) ≡ n
unfolding number
number-back n l = rw (number-is n l) (digits_value-decimal own n (small n l))

-- a line by its words
pub line-is : (v : Version) (line : List ℕ) (ws : List (List ℕ)) (k : Kind) → is_skipped line ≡ false → words_of line ≡ ws → kind_by v ws ≡ k → line_of v line ≡ line_by k ws
unfolding kind_of
line-is v line ws k s w e = rw (s, w, e) refl

type-kind : (v : Version) (t : List ℕ) → list_all is_word (codes "type" ∷ t ∷ []) ≡ true → kind_by v (codes "type" ∷ t ∷ []) ≡ kind.Type
unfolding kind_by word
type-kind v t h = rw (h) refl

sub-kind : (v : Version) (a b : List ℕ) → list_all is_word (codes "sub" ∷ a ∷ b ∷ []) ≡ true → kind_by v (codes "sub" ∷ a ∷ b ∷ []) ≡ kind.Sub
unfolding kind_by word
sub-kind v a b h = rw (h) refl

goal-kind : (v : Version) (t : List ℕ) → list_all is_word (codes "goal" ∷ t ∷ []) ≡ true → kind_by v (codes "goal" ∷ t ∷ []) ≡ kind.Goal
unfolding kind_by word
goal-kind v t h = rw (h) refl

binder-kind : (v : Version) (t : List ℕ) → list_all is_word (codes "binder" ∷ t ∷ []) ≡ true → kind_by v (codes "binder" ∷ t ∷ []) ≡ kind.Binder
unfolding kind_by word
binder-kind v t h = rw (h) refl

number-kind : (w : NumberWord) (t : List ℕ) → list_all is_word (word_text w ∷ t ∷ []) ≡ true → kind_by Two (word_text w ∷ t ∷ []) ≡ kind.Number w
unfolding kind_by word word_text of_newer
number-kind number_word.Limit t h = rw (h) refl
number-kind number_word.Depth t h = rw (h) refl
number-kind number_word.Bound t h = rw (h) refl
number-kind number_word.Binding t h = rw (h) refl
number-kind number_word.Step t h = rw (h) refl

decl-kind : (v : Version) (crowded : Bool) (ws : List (List ℕ)) (k : Kind) → list_all is_word (decl_head crowded ∷ ws) ≡ true → decl_kind crowded (decl_head crowded ∷ ws) ≡ k → kind_by v (decl_head crowded ∷ ws) ≡ k
unfolding kind_by word decl_head
decl-kind v true ws k h e = rw (h) e
decl-kind v false ws k h e = rw (h) e

-- no line begins with `#`
word-shown : (w : NumberWord) (more : List ℕ) → is_skipped (word_text w ++ more) ≡ false
unfolding is_skipped word_text
word-shown number_word.Limit more = refl
word-shown number_word.Depth more = refl
word-shown number_word.Bound more = refl
word-shown number_word.Binding more = refl
word-shown number_word.Step more = refl

head-shown : (crowded : Bool) (more : List ℕ) → is_skipped (decl_head crowded ++ more) ≡ false
unfolding is_skipped decl_head
head-shown true more = refl
head-shown false more = refl

type-shown : (more : List ℕ) → is_skipped (codes "type" ++ more) ≡ false
unfolding is_skipped
type-shown more = refl

sub-shown : (more : List ℕ) → is_skipped (codes "sub" ++ more) ≡ false
unfolding is_skipped
sub-shown more = refl

goal-shown : (more : List ℕ) → is_skipped (codes "goal" ++ more) ≡ false
unfolding is_skipped
goal-shown more = refl

binder-shown : (more : List ℕ) → is_skipped (codes "binder" ++ more) ≡ false
unfolding is_skipped
binder-shown more = refl

-- words that are words
pub word-plain : (w : NumberWord) → is_plain (word_text w) ≡ true
unfolding is_plain is_word word_text
word-plain number_word.Limit = refl
word-plain number_word.Depth = refl
word-plain number_word.Bound = refl
word-plain number_word.Binding = refl
word-plain number_word.Step = refl

pub head-plain : (crowded : Bool) → is_plain (decl_head crowded) ≡ true
unfolding is_plain is_word decl_head
head-plain true = refl
head-plain false = refl

pub type-plain : is_plain (codes "type") ≡ true
unfolding is_plain is_word
type-plain = refl

pub sub-plain : is_plain (codes "sub") ≡ true
unfolding is_plain is_word
sub-plain = refl

pub goal-plain : is_plain (codes "goal") ≡ true
unfolding is_plain is_word
goal-plain = refl

pub binder-plain : is_plain (codes "binder") ≡ true
unfolding is_plain is_word
binder-plain = refl

-- two words, and three
pub plain-two : (a b : List ℕ) → is_plain a ≡ true → is_plain b ≡ true → list_all is_plain (a ∷ b ∷ []) ≡ true
plain-two a b h k = of-both (is_plain a) (list_all is_plain (b ∷ [])) h (of-both (is_plain b) true k refl)

pub plain-three : (a b c : List ℕ) → is_plain a ≡ true → is_plain b ≡ true → is_plain c ≡ true → list_all is_plain (a ∷ b ∷ c ∷ []) ≡ true
plain-three a b c h k l = of-both (is_plain a) (list_all is_plain (b ∷ c ∷ [])) h (plain-two b c k l)

-- the lines
pub type-said : (v : Version) (t : List ℕ) → is_plain t ≡ true → line_of v (line_text (codes "type") (t ∷ [])) ≡ type_line t
unfolding line_by word
type-said v t h =
    let all = plain-two (codes "type") t type-plain h in
    line-is v (line_text (codes "type") (t ∷ [])) (codes "type" ∷ t ∷ []) kind.Type (type-shown (flat_map spaced (t ∷ []))) (words-line (codes "type") (t ∷ []) (all-dark (codes "type" ∷ t ∷ []) all)) (type-kind v t (all-words (codes "type" ∷ t ∷ []) all))

pub sub-said : (v : Version) (a b : List ℕ) → is_plain a ≡ true → is_plain b ≡ true → line_of v (line_text (codes "sub") (a ∷ b ∷ [])) ≡ sub_line a b
unfolding line_by word
sub-said v a b h k =
    let all = plain-three (codes "sub") a b sub-plain h k in
    line-is v (line_text (codes "sub") (a ∷ b ∷ [])) (codes "sub" ∷ a ∷ b ∷ []) kind.Sub (sub-shown (flat_map spaced (a ∷ b ∷ []))) (words-line (codes "sub") (a ∷ b ∷ []) (all-dark (codes "sub" ∷ a ∷ b ∷ []) all)) (sub-kind v a b (all-words (codes "sub" ∷ a ∷ b ∷ []) all))

pub goal-said : (v : Version) (t : List ℕ) → is_plain t ≡ true → line_of v (line_text (codes "goal") (t ∷ [])) ≡ goal_line t
unfolding line_by word
goal-said v t h =
    let all = plain-two (codes "goal") t goal-plain h in
    line-is v (line_text (codes "goal") (t ∷ [])) (codes "goal" ∷ t ∷ []) kind.Goal (goal-shown (flat_map spaced (t ∷ []))) (words-line (codes "goal") (t ∷ []) (all-dark (codes "goal" ∷ t ∷ []) all)) (goal-kind v t (all-words (codes "goal" ∷ t ∷ []) all))

pub binder-said : (v : Version) (t : List ℕ) → is_plain t ≡ true → line_of v (line_text (codes "binder") (t ∷ [])) ≡ binder_line t
unfolding line_by word
binder-said v t h =
    let all = plain-two (codes "binder") t binder-plain h in
    line-is v (line_text (codes "binder") (t ∷ [])) (codes "binder" ∷ t ∷ []) kind.Binder (binder-shown (flat_map spaced (t ∷ []))) (words-line (codes "binder") (t ∷ []) (all-dark (codes "binder" ∷ t ∷ []) all)) (binder-kind v t (all-words (codes "binder" ∷ t ∷ []) all))

pub number-said : (w : NumberWord) (t : List ℕ) → is_plain t ≡ true → line_of Two (line_text (word_text w) (t ∷ [])) ≡ number_line w t
unfolding line_by word
number-said w t h =
    let all = plain-two (word_text w) t (word-plain w) h in
    line-is Two (line_text (word_text w) (t ∷ [])) (word_text w ∷ t ∷ []) (kind.Number w) (word-shown w (flat_map spaced (t ∷ []))) (words-line (word_text w) (t ∷ []) (all-dark (word_text w ∷ t ∷ []) all)) (number-kind w t (all-words (word_text w ∷ t ∷ []) all))

-- a declaration by its words
pub decl-said : (v : Version) (crowded : Bool) (f : FormWord) (ws : List (List ℕ)) → list_all is_plain ws ≡ true → decl_kind crowded (decl_head crowded ∷ ws) ≡ kind.Decl crowded f → line_of v (line_text (decl_head crowded) ws) ≡ decl_line (decl_words crowded f (decl_head crowded ∷ ws))
unfolding line_by
decl-said v crowded f ws h e =
    let all = of-both (is_plain (decl_head crowded)) (list_all is_plain ws) (head-plain crowded) h in
    line-is v (line_text (decl_head crowded) ws) (decl_head crowded ∷ ws) (kind.Decl crowded f) (head-shown crowded (flat_map spaced ws)) (words-line (decl_head crowded) ws (all-dark (decl_head crowded ∷ ws) all)) (decl-kind v crowded ws (kind.Decl crowded f) (all-words (decl_head crowded ∷ ws) all) e)

-- a number in decimal is a word
not-yes : (b : Bool) → ¬ (b ≡ true) → b ≡ false
not-yes true n = absurd (n refl)
not-yes false n = refl

other : (b c : ℕ) → c < b → not (b == c) ≡ true
other b c l = of-false (b == c) (not-yes (b == c) (λ e. omega (arith, eqb-true b c e, l)))

digit-from : (b : ℕ) → is_ascii_digit b ≡ true → 48 ≤ b
digit-from b h = search rules

digit-plain : (b : ℕ) → is_ascii_digit b ≡ true → (not (b == 32) && not (b == 10)) ≡ true
digit-plain b h =
    let l = digit-from b h in
    of-both (not (b == 32)) (not (b == 10)) (other b 32 (omega (arith, l))) (other b 10 (omega (arith, l)))

digits-plain : (w : List ℕ) → all_ascii_digits w ≡ true → list_all (λ b. not (b == 32) && not (b == 10)) w ≡ true
digits-plain [] h = refl
digits-plain (b ∷ w) h =
    let k = both (is_ascii_digit b) (all_ascii_digits w) h in
    of-both (not (b == 32) && not (b == 10)) (list_all (λ c. not (c == 32) && not (c == 10)) w) (digit-plain b k.0) (digits-plain w k.1)

digits-no-return : (w : List ℕ) → all_ascii_digits w ≡ true → list_any (λ b. b == 13) w ≡ false
digits-no-return [] h = refl
digits-no-return (b ∷ w) h =
    let k = both (is_ascii_digit b) (all_ascii_digits w) h in
    let l = digit-from b k.0 in
    rw (not-true (b == 13) (other b 13 (omega (arith, l)))) (digits-no-return w k.1)

long-some : (w : List ℕ) → 0 < length w → not (length w == 0) ≡ true
long-some w l = other (length w) 0 l

pub decimal-plain : (n : ℕ) → n ≤ 999999999 → is_plain (decimal n) ≡ true
unfolding is_plain is_word
decimal-plain n l =
    let w = decimal n in
    let digits : all_ascii_digits (decimal n) ≡ true = digits_decimal own n (small n l) in
    of-both (is_word (decimal n)) (list_all (λ b. not (b == 32) && not (b == 10)) (decimal n))
    (of-both (not (length (decimal n) == 0)) (not (list_any (λ b. b == 13) (decimal n))) (long-some (decimal n) (decimal_nonempty n (small n l))) (of-false (list_any (λ b. b == 13) (decimal n)) (digits-no-return (decimal n) digits)))
    (digits-plain (decimal n) digits)
