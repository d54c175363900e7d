-- Tests of words by their characters, and how words go on.
use Rattle.std.proofs.Common.{◌≡◌, ◌∙◌, ◌⊎◌, inl, inr, ap, ap₂, sym, refl, ℕ, zero, suc, ◌<◌, ◌==◌, ◌&&◌, ◌||◌, Bool, true, false, List, [], ◌∷◌, ◌++◌, lit<, bytes_eq, chars, codes, encode_utf8_all, IsUtf8, rules, tests, length, append-nil, Result, Ok, Err, OnErr, eq-eqb, ne_eqb, eqb-true, get_or, arith}
use Rattle.std.specs.List.{list_all}
use Rattle.std.specs.Char.{is_ascii}
use Rattle.std.specs.Str.{IsAscii}
use Rattle.std.specs.Bool.{one_answer}
use Rattle.std.proofs.lemmas.Bool.{false≢true, both_ways, and_parts, or_cases, or_left, or_right}
use Rattle.std.proofs.lemmas.List.Folds.{list_all-append}
use Rattle.std.proofs.lemmas.Slice.Eq.{bytes_eq-Decides}
use lib.Utf8.{encode}
use Rattle.std.specs.Char.{IsScalar}
use Rattle.std.proofs.lemmas.Str.{chars-nil, chars-append, chars_past_char, IsUtf8-encode, chars-IsAscii, encodes-IsAscii, encodes-chars}
use Rattle.unicode_ident.proofs.IdentLemmas.{is_xid_start-ascii}
use Rattle.java_tokens.specs.Classes.{is_word_start, is_word_part}
use Rattle.java_tokens.specs.Words.{is_word}
use Rattle.java_units.specs.Signs.{has}
use Rattle.java_units.specs.Identifiers.{is_identifier}
use Rattle.java_shapes.specs.Words.{spells_identifier, begins_name, literals}
use Rattle.java_shapes.specs.Reader.{begins_first, is_empty}
use Rattle.java_shapes.proofs.Identifiers.{same_identifiers}
use Rattle.java_shapes.proofs.WordFacts.{has_cases, has_none}
use Rattle.java_shapes.proofs.RunWords.{word_begins}

-- what holds anyhow
pub on_err : {T E : Type 0} (result : Result T E) {P : Type 0} → P → OnErr result P
on_err (Ok x) p = tt
on_err (Err e) p = p

below : (c : ℕ) → is_ascii c ≡ true → c < 128
below c e = search (rules, tests)

pub all_below : (cs : List ℕ) → list_all is_ascii cs ≡ true → IsAscii cs
all_below [] e zero = lit< tt
all_below [] e (suc i) = lit< tt
all_below (c ∷ cs) e zero = below c (and_parts (is_ascii c) (list_all is_ascii cs) e).0
all_below (c ∷ cs) e (suc i) = all_below cs (and_parts (is_ascii c) (list_all is_ascii cs) e).1 i

same_test : (x t : List ℕ) → list_all is_ascii x ≡ true → IsUtf8 t → bytes_eq x t ≡ bytes_eq x (chars t)
same_test x t a u =
    let ascii = all_below x a in
    let d = bytes_eq-Decides x (chars t) in
    sym (one_answer (bytes_eq x (chars t)) (bytes_eq x t)
    ((λ e. sym (encodes-IsAscii x ascii) ∙ ap encode_utf8_all (d.0 e) ∙ encodes-chars t u), (λ e. d.1 (sym (chars-IsAscii x ascii) ∙ ap chars e)))
    (bytes_eq-Decides x t))

-- a table of ASCII texts has a text by its bytes as by its characters
pub has_chars : (xs : List (List ℕ)) (t : List ℕ) → list_all (λ x. list_all is_ascii x) xs ≡ true → IsUtf8 t → has xs t ≡ has xs (chars t)
unfolding has
has_chars [] t a u = refl
has_chars (x ∷ xs) t a u =
    let k = and_parts (list_all is_ascii x) (list_all (λ y. list_all is_ascii y) xs) a in
    ap₂ (λ b c. b || c) (same_test x t k.0 u) (has_chars xs t k.1 u)

pub one_and : (b : Bool) → (b && true) ≡ b
one_and true = refl
one_and false = refl

pub one_or : (b : Bool) → (b || false) ≡ b
one_or true = refl
one_or false = refl

-- a word of one character
pub word_start : (k : ℕ) → is_word (k ∷ []) ≡ is_word_start k
unfolding is_word
word_start k = one_and (is_word_start k)

-- a word with one character more
pub word_more : (w : List ℕ) (k : ℕ) → is_word w ≡ true → is_word (w ++ k ∷ []) ≡ is_word_part k
unfolding is_word
word_more [] k h = absurd (false≢true h)
word_more (c ∷ w) k h =
    let q = and_parts (is_word_start c) (list_all is_word_part w) h in
    ap (λ x. x && list_all is_word_part (w ++ k ∷ [])) q.0
    ∙ list_all-append is_word_part w (k ∷ [])
    ∙ ap (λ x. x && (is_word_part k && true)) q.1
    ∙ one_and (is_word_part k)

empty_test : (w : List ℕ) → is_empty w ≡ true → w ≡ []
empty_test [] e = refl
empty_test (c ∷ w) e = absurd (false≢true e)

-- a word, or its beginning, with one character more
pub goes_first : (w : List ℕ) (k : ℕ) (r : Bool) → is_empty w ≡ true → r ≡ is_word_start k → r ≡ is_word (w ++ k ∷ [])
goes_first w k r e h = h ∙ sym (word_start k) ∙ ap (λ x. is_word (x ++ k ∷ [])) (sym (empty_test w e))

pub goes_later : (w : List ℕ) (k : ℕ) (r : Bool) → is_empty w ≡ false → (w ≡ []) ⊎ (is_word w ≡ true) → r ≡ is_word_part k → r ≡ is_word (w ++ k ∷ [])
goes_later w k r e h q =
    elim h [
      | inl n ↦ absurd (both_ways (is_empty w) e (ap is_empty n))
      | inr n ↦ q ∙ sym (word_more w k n)
    ]

no_start48 : is_word_start 48 ≡ false
unfolding is_word_start
no_start48 = ap (λ b. (b || 48 == 95) || 48 == 36) (is_xid_start-ascii 48 (lit< tt))

no_start34 : is_word_start 34 ≡ false
unfolding is_word_start
no_start34 = ap (λ b. (b || 34 == 95) || 34 == 36) (is_xid_start-ascii 34 (lit< tt))

same_bool : (a b : Bool) → (a ≡ true → b ≡ true) → (b ≡ true → a ≡ true) → a ≡ b
same_bool true true f h = refl
same_bool true false f h = sym (f refl)
same_bool false true f h = h refl
same_bool false false f h = refl

-- what a name may begin with
data First (w : List ℕ) : Type 0 where
  word : is_word w ≡ true → First w
  zero_digit : w ≡ 48 ∷ [] → First w
  quote : w ≡ 34 ∷ [] → First w
  quotes : w ≡ 34 ∷ 34 ∷ [] → First w

first_literal : (w : List ℕ) → has (codes "0" ∷ (34 ∷ []) ∷ (34 ∷ 34 ∷ []) ∷ []) w ≡ true → First w
first_literal w h =
    elim (has_cases (codes "0") ((34 ∷ []) ∷ (34 ∷ 34 ∷ []) ∷ []) w h) [
      | inl e ↦ zero_digit (sym e)
      | inr a ↦ elim (has_cases (34 ∷ []) ((34 ∷ 34 ∷ []) ∷ []) w a) [
        | inl e ↦ quote (sym e)
        | inr b ↦ elim (has_cases (34 ∷ 34 ∷ []) [] w b) [
          | inl e ↦ quotes (sym e)
          | inr d ↦ absurd (has_none w d)
        ]
      ]
    ]

first_cases : (w : List ℕ) → begins_first w ≡ true → First w
unfolding begins_first
first_cases w h = elim (or_cases (is_word w) (has (codes "0" ∷ (34 ∷ []) ∷ (34 ∷ 34 ∷ []) ∷ []) w) h) [ inl a ↦ word a | inr b ↦ first_literal w b ]

zero_begins : begins_first (48 ∷ []) ≡ true
unfolding begins_first has
zero_begins = or_right (is_word (48 ∷ [])) (has (codes "0" ∷ (34 ∷ []) ∷ (34 ∷ 34 ∷ []) ∷ []) (48 ∷ [])) refl

quote_begins : begins_first (34 ∷ []) ≡ true
unfolding begins_first has
quote_begins = or_right (is_word (34 ∷ [])) (has (codes "0" ∷ (34 ∷ []) ∷ (34 ∷ 34 ∷ []) ∷ []) (34 ∷ [])) refl

quotes_begin : begins_first (34 ∷ 34 ∷ []) ≡ true
unfolding begins_first has
quotes_begin = or_right (is_word (34 ∷ 34 ∷ [])) (has (codes "0" ∷ (34 ∷ []) ∷ (34 ∷ 34 ∷ []) ∷ []) (34 ∷ 34 ∷ [])) refl

start_of : (c : ℕ) (w : List ℕ) → is_word (c ∷ w) ≡ true → is_word_start c ≡ true
unfolding is_word
start_of c w h = (and_parts (is_word_start c) (list_all is_word_part w) h).0

no_word48 : (w : List ℕ) → is_word (48 ∷ w) ≡ true → ⊥
no_word48 w h = both_ways (is_word_start 48) no_start48 (start_of 48 w h)

no_word34 : (w : List ℕ) → is_word (34 ∷ w) ≡ true → ⊥
no_word34 w h = both_ways (is_word_start 34) no_start34 (start_of 34 w h)

eq_test : (a b : ℕ) → a ≡ b → (a == b) ≡ true
eq_test a b e = eq-eqb a b e

first_of : (k : ℕ) → First (k ∷ []) → ((is_word_start k || (k == 48)) || (k == 34)) ≡ true
first_of k (word a) = or_left (is_word_start k || (k == 48)) (k == 34) (or_left (is_word_start k) (k == 48) (start_of k [] a))
first_of k (zero_digit e) = or_left (is_word_start k || (k == 48)) (k == 34) (or_right (is_word_start k) (k == 48) (eq_test k 48 (cc)))
first_of k (quote e) = or_right (is_word_start k || (k == 48)) (k == 34) (eq_test k 34 (cc))
first_of k (quotes e) = absurd (cc)

from_first : (k : ℕ) → ((is_word_start k || (k == 48)) || (k == 34)) ≡ true → begins_first (k ∷ []) ≡ true
from_first k h =
    elim (or_cases (is_word_start k || (k == 48)) (k == 34) h) [
      | inl a ↦ elim (or_cases (is_word_start k) (k == 48) a) [
        | inl b ↦ word_begins (k ∷ []) (word_start k ∙ b)
        | inr b ↦ ap (λ x. begins_first (x ∷ [])) (eqb-true k 48 b) ∙ zero_begins
      ]
      | inr a ↦ ap (λ x. begins_first (x ∷ [])) (eqb-true k 34 a) ∙ quote_begins
    ]

-- one character with which a name may begin
pub first_alone : (w : List ℕ) (k : ℕ) (r : Bool) → is_empty w ≡ true → r ≡ ((is_word_start k || (k == 48)) || (k == 34)) → r ≡ begins_first (w ++ k ∷ [])
first_alone w k r e h =
    h ∙ same_bool ((is_word_start k || (k == 48)) || (k == 34)) (begins_first (k ∷ [])) (from_first k) (λ b. first_of k (first_cases (k ∷ []) b))
    ∙ ap (λ x. begins_first (x ++ k ∷ [])) (sym (empty_test w e))

is_text : (x w : List ℕ) → has (x ∷ []) w ≡ true → x ≡ w
is_text x w h = elim (has_cases x [] w h) [ inl e ↦ e | inr d ↦ absurd (has_none w d) ]

quoted : (k : ℕ) → First (34 ∷ k ∷ []) → (k == 34) ≡ true
quoted k (word a) = absurd (no_word34 (k ∷ []) a)
quoted k (zero_digit e) = absurd (cc)
quoted k (quote e) = absurd (cc)
quoted k (quotes e) = eq_test k 34 (cc)

-- behind a quote
pub first_quote : (w : List ℕ) (k : ℕ) (r : Bool) → has ((34 ∷ []) ∷ []) w ≡ true → r ≡ (k == 34) → r ≡ begins_first (w ++ k ∷ [])
first_quote w k r e h =
    h ∙ same_bool (k == 34) (begins_first (34 ∷ k ∷ [])) (λ a. ap (λ x. begins_first (34 ∷ x ∷ [])) (eqb-true k 34 a) ∙ quotes_begin) (λ b. quoted k (first_cases (34 ∷ k ∷ []) b))
    ∙ ap (λ x. begins_first (x ++ k ∷ [])) (is_text (34 ∷ []) w e)

other_length : (v w : List ℕ) → (length v ≡ length w → ⊥) → v ≡ w → ⊥
other_length v w h e = h (ap length e)

other_first : (a b : ℕ) (v w : List ℕ) → (a ≡ b → ⊥) → a ∷ v ≡ b ∷ w → ⊥
other_first a b v w h e = h (ap (λ x. get_or x 0 0) e)

zeroed : (k : ℕ) → First (48 ∷ k ∷ []) → ⊥
zeroed k (word a) = no_word48 (k ∷ []) a
zeroed k (zero_digit e) = other_length (48 ∷ k ∷ []) (48 ∷ []) (λ l. omega arith) e
zeroed k (quote e) = other_length (48 ∷ k ∷ []) (34 ∷ []) (λ l. omega arith) e
zeroed k (quotes e) = other_first 48 34 (k ∷ []) (34 ∷ []) (λ l. omega arith) e

closed : (k : ℕ) → First (34 ∷ 34 ∷ k ∷ []) → ⊥
closed k (word a) = no_word34 (34 ∷ k ∷ []) a
closed k (zero_digit e) = other_length (34 ∷ 34 ∷ k ∷ []) (48 ∷ []) (λ l. omega arith) e
closed k (quote e) = other_length (34 ∷ 34 ∷ k ∷ []) (34 ∷ []) (λ l. omega arith) e
closed k (quotes e) = other_length (34 ∷ 34 ∷ k ∷ []) (34 ∷ 34 ∷ []) (λ l. omega arith) e

not_first : (w : List ℕ) → (First w → ⊥) → false ≡ begins_first w
not_first w h = same_bool false (begins_first w) (λ e. absurd (false≢true e)) (λ b. absurd (h (first_cases w b)))

-- behind a whole literal
pub first_zero : (w : List ℕ) (k : ℕ) → has (codes "0" ∷ []) w ≡ true → false ≡ begins_first (w ++ k ∷ [])
first_zero w k e = not_first (48 ∷ k ∷ []) (zeroed k) ∙ ap (λ x. begins_first (x ++ k ∷ [])) (is_text (codes "0") w e)

pub first_quotes : (w : List ℕ) (k : ℕ) → has ((34 ∷ 34 ∷ []) ∷ []) w ≡ true → false ≡ begins_first (w ++ k ∷ [])
first_quotes w k e = not_first (34 ∷ 34 ∷ k ∷ []) (closed k) ∙ ap (λ x. begins_first (x ++ k ∷ [])) (is_text (34 ∷ 34 ∷ []) w e)

wordy : (c : ℕ) (w : List ℕ) (k : ℕ) → is_word (c ∷ w) ≡ true → First (c ∷ (w ++ k ∷ [])) → is_word_part k ≡ true
wordy c w k h (word a) = sym (word_more (c ∷ w) k h) ∙ a
wordy c [] k h (zero_digit e) = absurd (cc)
wordy c (d ∷ w) k h (zero_digit e) = absurd (cc)
wordy c [] k h (quote e) = absurd (cc)
wordy c (d ∷ w) k h (quote e) = absurd (cc)
wordy c w k h (quotes e) = let f : c ≡ 34 = cc in absurd (no_word34 w (ap (λ x. is_word (x ∷ w)) (sym f) ∙ h))

word_goes : (w : List ℕ) (k : ℕ) → is_word w ≡ true → is_word_part k ≡ begins_first (w ++ k ∷ [])
unfolding is_word
word_goes [] k h = absurd (false≢true h)
word_goes (c ∷ w) k h =
    same_bool (is_word_part k) (begins_first (c ∷ (w ++ k ∷ [])))
    (λ a. word_begins (c ∷ (w ++ k ∷ [])) (word_more (c ∷ w) k h ∙ a))
    (λ b. wordy c w k h (first_cases (c ∷ (w ++ k ∷ [])) b))

has_self : (x : List ℕ) → has (x ∷ []) x ≡ true
unfolding has
has_self x = or_left (bytes_eq x x) false ((bytes_eq-Decides x x).1 refl)

later_by : (w : List ℕ) (k : ℕ) (r : Bool) → has ((34 ∷ []) ∷ []) w ≡ false → has (codes "0" ∷ []) w ≡ false → has ((34 ∷ 34 ∷ []) ∷ []) w ≡ false → r ≡ is_word_part k → First w → r ≡ begins_first (w ++ k ∷ [])
later_by w k r n34 n48 n3434 q (word a) = q ∙ word_goes w k a
later_by w k r n34 n48 n3434 q (zero_digit f) = absurd (both_ways (has (codes "0" ∷ []) w) n48 (ap (has (codes "0" ∷ [])) f ∙ has_self (codes "0")))
later_by w k r n34 n48 n3434 q (quote f) = absurd (both_ways (has ((34 ∷ []) ∷ []) w) n34 (ap (has ((34 ∷ []) ∷ [])) f ∙ has_self (34 ∷ [])))
later_by w k r n34 n48 n3434 q (quotes f) = absurd (both_ways (has ((34 ∷ 34 ∷ []) ∷ []) w) n3434 (ap (has ((34 ∷ 34 ∷ []) ∷ [])) f ∙ has_self (34 ∷ 34 ∷ [])))

-- in a word
pub first_later : (w : List ℕ) (k : ℕ) (r : Bool) → is_empty w ≡ false → (w ≡ []) ⊎ (begins_first w ≡ true) → has ((34 ∷ []) ∷ []) w ≡ false → has (codes "0" ∷ []) w ≡ false → has ((34 ∷ 34 ∷ []) ∷ []) w ≡ false → r ≡ is_word_part k → r ≡ begins_first (w ++ k ∷ [])
first_later w k r e h n34 n48 n3434 q =
    elim h [
      | inl n ↦ absurd (both_ways (is_empty w) e (ap is_empty n))
      | inr b ↦ later_by w k r n34 n48 n3434 q (first_cases w b)
    ]

empty_by : (b : ℕ) (bs cs : List ℕ) → encode_utf8_all cs ≡ b ∷ bs → (length (b ∷ bs) == 0) ≡ is_empty cs
empty_by b bs [] e = absurd (cc)
empty_by b bs (c ∷ cs) e = ne_eqb (length (b ∷ bs)) 0 (λ l. omega arith)

-- a text is empty where it has no byte
pub empty_chars : (bs : List ℕ) (r : Bool) → IsUtf8 bs → r ≡ (length bs == 0) → r ≡ is_empty (chars bs)
empty_chars [] r u h = h ∙ sym (ap is_empty chars-nil)
empty_chars (b ∷ bs) r u h = h ∙ empty_by b bs (chars (b ∷ bs)) (encodes-chars (b ∷ bs) u)

-- a table's test of a text is that of its characters
pub table_test : (xs : List (List ℕ)) (t w : List ℕ) (r : Bool) → list_all (λ x. list_all is_ascii x) xs ≡ true → IsUtf8 t → chars t ≡ w → r ≡ has xs t → r ≡ has xs w
table_test xs t w r a u e h = h ∙ has_chars xs t a u ∙ ap (has xs) e

pub identifier_test : (t w : List ℕ) (r : Bool) → IsUtf8 t → chars t ≡ w → r ≡ is_identifier t → r ≡ spells_identifier w
identifier_test t w r u e h = h ∙ sym (same_identifiers t u) ∙ ap spells_identifier e

pub begins_yes : (w : List ℕ) (r : Bool) → r ≡ true → r ≡ spells_identifier w → r ≡ begins_name w
unfolding begins_name
begins_yes w r e h = e ∙ sym (or_left (spells_identifier w) (has (codes "this" ∷ literals) w) (sym h ∙ e))

pub begins_no : (w : List ℕ) (i r : Bool) → i ≡ false → i ≡ spells_identifier w → r ≡ has (codes "this" ∷ literals) w → r ≡ begins_name w
unfolding begins_name
begins_no w i r e h q = q ∙ ap (λ x. x || has (codes "this" ∷ literals) w) (sym e ∙ h)

-- a text with one character more
pub char_pushed : (bs : List ℕ) (c : ℕ) → IsUtf8 bs → IsScalar c → chars (bs ++ encode c) ≡ chars bs ++ c ∷ []
char_pushed bs c u s =
    chars-append bs (encode c) u
    ∙ ap (λ x. chars bs ++ x) (chars_past_char (encode c) [] c (IsUtf8-encode c s) (sym (append-nil (encode c))) ∙ ap (λ x. c ∷ x) chars-nil)

pub no_bytes : (xs : List ℕ) → length xs ≡ 0 → xs ≡ []
no_bytes [] e = refl
no_bytes (x ∷ xs) e = absurd (omega arith)
