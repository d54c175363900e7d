-- Texts that are one word.
use Rattle.std.proofs.Common.{◌≡◌, ◌≢◌, ◌∙◌, ap, sym, subst, ℕ, zero, suc, ◌+◌, ◌<◌, ◌≤◌, ◌==◌, ◌&&◌, ◌||◌, Bool, true, false, drop, take, take_all, length, arith, rules, tests, List, [], ◌∷◌, refl, IsUtf8, if◌then◌else◌, codes, get_or, lit<, All, ◌++◌, ◌-◌, append_assoc, length-append}
use Rattle.std.specs.List.{list_all}
use Rattle.std.specs.Char.{is_ascii}
use Rattle.std.specs.Str.{chars}
use Rattle.std.proofs.lemmas.List.{drop_all, length-drop, take-append-drop}
use Rattle.std.proofs.lemmas.Str.{chars-IsAscii, chars-encodes, encodes-append, encodes-chars, scalars-chars}
use Rattle.std.proofs.lemmas.List.Elements.{All-nil, All-cons}
use Rattle.std.proofs.Math.Seq.{take-append_seam, drop-append_seam}
use lib.Utf8.{encodes, scalars, scalar}
use Rattle.unicode_ident.specs.Ident.{is_xid_start, is_xid_continue}
use Rattle.unicode_ident.proofs.IdentLemmas.{is_xid_start-ascii, is_xid_continue-ascii, is_xid_start-is_xid_continue}
use Rattle.java_tokens.specs.Classes.{is_white, is_word_start, is_word_part, is_digit}
use Rattle.java_tokens.specs.Rules.{rule, run_of, begins, up_to, quoted, quoted_in_line}
use Rattle.java_tokens.specs.Tokens.{byte_len, AreTokens}
use Rattle.java_tokens.specs.Words.{is_word, begins_word, is_ascii_word, is_ascii_word_start, is_ascii_word_part, IsWordByText, WordLaws, word_token}
use Rattle.java_tokens.specs.declared.char_class.CharClass.TheVariants.{InLine, WordPart, NumberPart}
use Rattle.java_tokens.specs.declared.token.Token.{Token}
use Rattle.java_tokens.specs.declared.token.TokenKind.{TokenKind}
use Rattle.java_tokens.specs.declared.token.TokenKind.TheVariants as kind
use Rattle.java_tokens.proofs.Runs.{byte_len-encodes}
use Rattle.java_tokens.proofs.Total.{scalars_drop}

and_left : (a b : Bool) → (a && b) ≡ true → a ≡ true
and_left true b e = refl
and_left false b e = absurd (cc)

and_right : (a b : Bool) → (a && b) ≡ true → b ≡ true
and_right true b e = e
and_right false b e = absurd (cc)

or_right : (a : Bool) → (a || true) ≡ true
or_right true = refl
or_right false = refl

below : (c : ℕ) → is_ascii c ≡ true → c < 128
below c e = search (rules, tests)

all_below : (cs : List ℕ) → list_all is_ascii cs ≡ true → (i : ℕ) → get_or cs i 0 < 128
all_below [] e zero = lit< tt
all_below [] e (suc i) = lit< tt
all_below (c ∷ cs) e zero = below c (and_left (is_ascii c) (list_all is_ascii cs) e)
all_below (c ∷ cs) e (suc i) = all_below cs (and_right (is_ascii c) (list_all is_ascii cs) e) i

start_same : (c : ℕ) → is_ascii c ≡ true → is_word_start c ≡ is_ascii_word_start c
unfolding is_word_start
start_same c e = ap (λ b. (b || c == 95) || c == 36) (is_xid_start-ascii c (below c e))

part_same : (c : ℕ) → is_ascii c ≡ true → is_word_part c ≡ is_ascii_word_part c
unfolding is_word_part
part_same c e = ap (λ b. b || c == 36) (is_xid_continue-ascii c (below c e))

both_same : (a b c d : Bool) → a ≡ c → b ≡ d → (a && b) ≡ (c && d)
both_same a b c d e f = ap (λ x. x && b) e ∙ ap (λ x. c && x) f

parts_same : (cs : List ℕ) → list_all is_ascii cs ≡ true → list_all is_word_part cs ≡ list_all is_ascii_word_part cs
parts_same [] e = refl
parts_same (c ∷ cs) e =
    both_same (is_word_part c) (list_all is_word_part cs) (is_ascii_word_part c) (list_all is_ascii_word_part cs)
    (part_same c (and_left (is_ascii c) (list_all is_ascii cs) e)) (parts_same cs (and_right (is_ascii c) (list_all is_ascii cs) e))

word_same : (cs : List ℕ) → list_all is_ascii cs ≡ true → is_word cs ≡ is_ascii_word cs
unfolding is_word
word_same [] e = refl
word_same (c ∷ cs) e =
    both_same (is_word_start c) (list_all is_word_part cs) (is_ascii_word_start c) (list_all is_ascii_word_part cs)
    (start_same c (and_left (is_ascii c) (list_all is_ascii cs) e)) (parts_same cs (and_right (is_ascii c) (list_all is_ascii cs) e))

ascii : (text : List ℕ) → list_all is_ascii text ≡ true → is_word (chars text) ≡ is_ascii_word text
ascii text e = ap is_word (chars-IsAscii text (all_below text e)) ∙ word_same text e

-- what may begin a word may stand further on in one

goes_if : (a b d e : Bool) → (a ≡ true → e ≡ true) → (b ≡ true → e ≡ true) → ((a || b) || d) ≡ true → (e || d) ≡ true
goes_if true b d e f g h = rw (f refl) refl
goes_if false true d e f g h = rw (g refl) refl
goes_if false false true e f g h = or_right e
goes_if false false false e f g h = absurd (cc)

low_line : (c : ℕ) → (c == 95) ≡ true → is_xid_continue c ≡ true
low_line c e =
    let same : c ≡ 95 = search (rules, tests) in
    ap is_xid_continue same ∙ is_xid_continue-ascii 95 (lit< tt)

goes : (c : ℕ) → is_word_start c ≡ true → is_word_part c ≡ true
unfolding is_word_start is_word_part
goes c s = goes_if (is_xid_start c) (c == 95) (c == 36) (is_xid_continue c) (is_xid_start-is_xid_continue c) (low_line c) s

twice : (a b d : Bool) → (a ≡ true → b ≡ true) → (a && (b && d)) ≡ (a && d)
twice false b d f = refl
twice true b d f = rw (f refl) refl

word_by_parts : (cs : List ℕ) → (begins_word cs && list_all is_word_part cs) ≡ is_word cs
unfolding is_word
word_by_parts [] = refl
word_by_parts (c ∷ cs) = twice (is_word_start c) (is_word_part c) (list_all is_word_part cs) (goes c)

pub word_parts : (cs : List ℕ) (a b : Bool) → a ≡ true → a ≡ begins_word cs → b ≡ list_all is_word_part cs → b ≡ is_word cs
word_parts cs a b t e f = f ∙ (sym (ap (λ x. x && list_all is_word_part cs) (sym e ∙ t)) ∙ word_by_parts cs)

pub no_word : (cs : List ℕ) (a : Bool) → a ≡ false → a ≡ begins_word cs → a ≡ is_word cs
no_word cs a t e = t ∙ (sym (ap (λ x. x && list_all is_word_part cs) (sym e ∙ t)) ∙ word_by_parts cs)

-- a word is one token

differ_if : (b : Bool) (c k : ℕ) → (k == c) ≡ b → is_word_start c ≡ true → is_word_start k ≡ false → b ≡ false
differ_if false c k e s n = refl
differ_if true c k e s n =
    let same : k ≡ c = search (rules, tests) in
    let t : is_word_start c ≡ false = ap is_word_start (sym same) ∙ n in
    absurd (cc)

-- the character is none that begins no word
differ : (k c : ℕ) → is_word_start c ≡ true → is_word_start k ≡ false → (k == c) ≡ false
differ k c s n = differ_if (k == c) c k refl s n

turned : (k c : ℕ) → (k == c) ≡ false → (c == k) ≡ false
turned k c e = search (rules, tests)

not_white : (c : ℕ) → is_word_start c ≡ true → is_white c ≡ false
unfolding is_white
not_white c s =
    rw (turned 32 c (differ 32 c s (start_same 32 refl)), turned 9 c (differ 9 c s (start_same 9 refl)), turned 12 c (differ 12 c s (start_same 12 refl)), turned 13 c (differ 13 c s (start_same 13 refl)), turned 10 c (differ 10 c s (start_same 10 refl))) refl

begins_other : (m c : ℕ) (mark cs : List ℕ) → (m == c) ≡ false → begins (m ∷ mark) (c ∷ cs) ≡ false
unfolding begins
begins_other m c mark cs e = rw (e) refl

word_rule : (c : ℕ) (cs : List ℕ) → is_word_start c ≡ true → rule c cs ≡ (kind.Word, suc (run_of WordPart cs))
unfolding rule
word_rule c cs s =
    let slash = differ 47 c s (start_same 47 refl) in
    let quote = differ 34 c s (start_same 34 refl) in
    rw (not_white c s, begins_other 47 c (47 ∷ []) cs slash, begins_other 47 c (42 ∷ []) cs slash, begins_other 34 c (34 ∷ 34 ∷ []) cs quote, turned 34 c quote, turned 39 c (differ 39 c s (start_same 39 refl)), s) refl

run_whole : (cs : List ℕ) → list_all is_word_part cs ≡ true → run_of WordPart cs ≡ length cs
unfolding run_of
run_whole [] e = refl
run_whole (c ∷ cs) e = rw (and_left (is_word_part c) (list_all is_word_part cs) e) (ap suc (run_whole cs (and_right (is_word_part c) (list_all is_word_part cs) e)))

take_whole : (n : ℕ) (cs : List ℕ) → n ≡ length cs → take n cs ≡ cs
take_whole n cs e = take_all n cs (omega (arith, e))

drop_whole : (n : ℕ) (cs : List ℕ) → n ≡ length cs → drop n cs ≡ []
drop_whole n cs e = drop_all n cs (omega (arith, e))

chars_bytes : (text : List ℕ) → IsUtf8 text → byte_len (chars text) ≡ length text
chars_bytes text u = byte_len-encodes (chars text) ∙ ap length (encodes-chars text u)

one_of : (cs : List ℕ) (end : ℕ) → byte_len cs ≡ end → is_word cs ≡ true → AreTokens 0 cs (record { kind = kind.Word; start = 0; end = end } ∷ [])
unfolding is_word
one_of [] end u e = absurd (cc)
one_of (c ∷ cs) end u e =
    let s = and_left (is_word_start c) (list_all is_word_part cs) e in
    let whole : suc (run_of WordPart cs) ≡ length (c ∷ cs) = ap suc (run_whole cs (and_right (is_word_start c) (list_all is_word_part cs) e)) in
    let n = suc (run_of WordPart cs) in
    let ends : end ≡ 0 + byte_len (take n (c ∷ cs)) = sym u ∙ (sym (ap byte_len (take_whole n (c ∷ cs) whole)) ∙ omega arith) in
    (n, word_rule c cs s, refl, ends, subst (λ xs. AreTokens end xs []) (sym (drop_whole n (c ∷ cs) whole)) tt)

one_token : (text : List ℕ) → IsUtf8 text → is_word (chars text) ≡ true → AreTokens 0 (chars text) (word_token text ∷ [])
one_token text u e = one_of (chars text) (length text) (chars_bytes text u) e

-- one word alone is a word

past : (b : Bool) (k : TokenKind) (x n : ℕ) (r : TokenKind × ℕ) → k ≢ kind.Word → (if b then (k, x) else r) ≡ (kind.Word, n) → r ≡ (kind.Word, n)
past true k x n r d e = absurd (d (ap (λ p. p.0) e))
past false k x n r d e = e

not_white_word : kind.White ≢ kind.Word
not_white_word e = absurd (cc)

not_comment_word : kind.Comment ≢ kind.Word
not_comment_word e = absurd (cc)

not_text_word : kind.Text ≢ kind.Word
not_text_word e = absurd (cc)

not_char_word : kind.CharText ≢ kind.Word
not_char_word e = absurd (cc)

record Reads (c : ℕ) (cs : List ℕ) (n : ℕ) : Type 0 where
  starts : is_word_start c ≡ true
  runs : suc (run_of WordPart cs) ≡ n

at_last : (b d : Bool) (x y n : ℕ) → ◌≡◌ {A = TokenKind × ℕ} (if b then (kind.Word, x) else if d then (kind.Number, y) else (kind.Symbol, 1)) (kind.Word, n) → (b ≡ true) × (x ≡ n)
at_last true d x y n e = (refl, ap (λ p. p.1) e)
at_last false true x y n e = let k : kind.Number ≡ kind.Word = ap (λ p. p.0) e in absurd (cc)
at_last false false x y n e = let k : kind.Symbol ≡ kind.Word = ap (λ p. p.0) e in absurd (cc)

word_reads : (c : ℕ) (cs : List ℕ) (n : ℕ) → rule c cs ≡ (kind.Word, n) → Reads c cs n
unfolding rule
word_reads c cs n e =
    let three = 34 ∷ 34 ∷ 34 ∷ [] in
    let a = past _ kind.White _ n _ not_white_word e in
    let b = past (begins (codes "//") (c ∷ cs)) kind.Comment (2 + run_of InLine (drop 1 cs)) n _ not_comment_word a in
    let d = past (begins (codes "/*") (c ∷ cs)) kind.Comment (2 + up_to (codes "*/") (drop 1 cs)) n _ not_comment_word b in
    let f = past (begins three (c ∷ cs)) kind.Text (3 + quoted three false (drop 2 cs)) n _ not_text_word d in
    let g = past (c == 34) kind.Text (suc (quoted_in_line 34 false cs)) n _ not_text_word f in
    let h = past (c == 39) kind.CharText (suc (quoted_in_line 39 false cs)) n _ not_char_word g in
    let last = at_last (is_word_start c) (is_digit c) (suc (run_of WordPart cs)) (suc (run_of NumberPart cs)) n h in
    record { starts = last.0; runs = last.1 }

no_tokens : (at : ℕ) (cs : List ℕ) → AreTokens at cs [] → cs ≡ []
no_tokens at [] e = refl
no_tokens at (c ∷ cs) e = absurd e

run_if : (b : Bool) (n m : ℕ) → n ≤ m → suc m ≤ (if b then suc n else 0) → (b ≡ true) × (m ≤ n)
run_if true n m l h = (refl, omega arith)
run_if false n m l h = absurd (omega arith)

run_most : (cs : List ℕ) → run_of WordPart cs ≤ length cs
unfolding run_of
run_most [] = omega arith
run_most (c ∷ cs) = elim (is_word_part c) as (λ b. (if b then suc (run_of WordPart cs) else 0) ≤ suc (length cs)) [ true ↦ omega (arith, run_most cs) | false ↦ omega arith ]

and_true : (a b : Bool) → a ≡ true → b ≡ true → (a && b) ≡ true
and_true a b e f = rw (e, f) refl

run_all : (cs : List ℕ) → length cs ≤ run_of WordPart cs → list_all is_word_part cs ≡ true
unfolding run_of
run_all [] l = refl
run_all (c ∷ cs) l =
    let both = run_if (is_word_part c) (run_of WordPart cs) (length cs) (run_most cs) l in
    and_true (is_word_part c) (list_all is_word_part cs) both.0 (run_all cs both.1)

only_of : (cs : List ℕ) (end : ℕ) → AreTokens 0 cs (record { kind = kind.Word; start = 0; end = end } ∷ []) → is_word cs ≡ true
unfolding is_word
only_of [] end e = absurd e
only_of (c ∷ cs) end (n, r, s, f, more) =
    let reads = word_reads c cs n r in
    let none = no_tokens end (drop n (c ∷ cs)) more in
    let long : length cs ≤ run_of WordPart cs = omega (arith, ap length none, length-drop n (c ∷ cs), reads.runs) in
    and_true (is_word_start c) (list_all is_word_part cs) reads.starts (run_all cs long)

no_other : (text : List ℕ) (end : ℕ) → AreTokens 0 (chars text) (record { kind = kind.Word; start = 0; end = end } ∷ []) → is_word (chars text) ≡ true
no_other text end e = only_of (chars text) end e

-- each word among the tokens

run_parts_by : (b : Bool) (c : ℕ) (cs : List ℕ) → is_word_part c ≡ b → list_all is_word_part (take (run_of WordPart cs) cs) ≡ true → list_all is_word_part (take (if b then suc (run_of WordPart cs) else 0) (c ∷ cs)) ≡ true
run_parts_by true c cs e h = and_true (is_word_part c) (list_all is_word_part (take (run_of WordPart cs) cs)) e h
run_parts_by false c cs e h = refl

run_parts : (cs : List ℕ) → list_all is_word_part (take (run_of WordPart cs) cs) ≡ true
unfolding run_of
run_parts [] = refl
run_parts (c ∷ cs) = run_parts_by (is_word_part c) c cs refl (run_parts cs)

prefix_word : (c : ℕ) (cs : List ℕ) (n : ℕ) → Reads c cs n → is_word (take n (c ∷ cs)) ≡ true
unfolding is_word
prefix_word c cs n r =
    subst (λ k. is_word (take k (c ∷ cs)) ≡ true) r.runs (and_true (is_word_start c) (list_all is_word_part (take (run_of WordPart cs) cs)) r.starts (run_parts cs))

scalars_take : (n : ℕ) (cs : List ℕ) → scalars cs ≡ true → scalars (take n cs) ≡ true
scalars_take zero cs e = refl
scalars_take (suc n) [] e = refl
scalars_take (suc n) (c ∷ cs) e = and_true (scalar c) (scalars (take n cs)) (and_left (scalar c) (scalars cs) e) (scalars_take n cs (and_right (scalar c) (scalars cs) e))

cut_text : (text pre prefix rest : List ℕ) (start end : ℕ) → text ≡ pre ++ (prefix ++ rest) → start ≡ length pre → end ≡ length pre + length prefix → take (end - start) (drop start text) ≡ prefix
cut_text text pre prefix rest start end e a b =
    let size : end - start ≡ length prefix = omega (arith, a, b) in
    let left : drop start text ≡ prefix ++ rest = ap (drop start) e ∙ (ap (λ k. drop k (pre ++ (prefix ++ rest))) a ∙ drop-append_seam pre (prefix ++ rest)) in
    ap (λ k. take k (drop start text)) size ∙ (ap (take (length prefix)) left ∙ take-append_seam prefix rest)

each_from : (text pre cs : List ℕ) (at : ℕ) (ts : List Token) → text ≡ pre ++ encodes cs → at ≡ length pre → scalars cs ≡ true → AreTokens at cs ts → All (IsWordByText text) ts
each_from text pre cs at [] e a s are = All-nil (IsWordByText text)
each_from text pre [] at (t ∷ ts) e a s are = absurd are
each_from text pre (c ∷ cs) at (t ∷ ts) e a s (n, r, first, last, more) =
    let all = c ∷ cs in
    let prefix = encodes (take n all) in
    let longer = pre ++ prefix in
    let e1 : text ≡ pre ++ (prefix ++ encodes (drop n all)) = e ∙ ap (λ x. pre ++ x) (sym (ap encodes (take-append-drop n all)) ∙ encodes-append (take n all) (drop n all)) in
    let e2 : text ≡ longer ++ encodes (drop n all) = e1 ∙ sym (append_assoc pre prefix (encodes (drop n all))) in
    let size = byte_len-encodes (take n all) in
    let a2 : t.end ≡ length longer = omega (arith, last, a, size, length-append pre prefix) in
    let from : t.start ≡ length pre = first ∙ a in
    let to : t.end ≡ length pre + length prefix = omega (arith, last, a, size) in
    let same : chars (take (t.end - t.start) (drop t.start text)) ≡ take n all = ap chars (cut_text text pre prefix (encodes (drop n all)) t.start t.end e1 from to) ∙ chars-encodes (take n all) (scalars_take n all s) in
    All-cons (IsWordByText text) t ts (λ k. ap is_word same ∙ prefix_word c cs n (word_reads c cs n (r ∙ ap (λ x. (x, n)) k))) (each_from text longer (drop n all) t.end ts e2 a2 (scalars_drop n all s) more)

each : (text : List ℕ) (ts : List Token) → IsUtf8 text → AreTokens 0 (chars text) ts → All (IsWordByText text) ts
each text ts u are = each_from text [] (chars text) 0 ts (sym (encodes-chars text u)) refl (scalars-chars text u) are

pub word_laws : WordLaws
word_laws = record { ascii = ascii; one_token = one_token; no_other = no_other; each = each }
