-- Runs of characters, one character further.
use Rattle.std.proofs.Common.{◌≡◌, ◌∙◌, ap, ◌++◌, IsUtf8, ℕ, zero, suc, ◌+◌, ◌<◌, ◌≤◌, get_or, drop, take, arith, List, [], ◌∷◌, refl, Bool, true, false, length, if◌then◌else◌, ◌==◌, ◌&&◌}
use Rattle.std.proofs.lemmas.List.{drop_more, drop_all, take_more, length-append}
use Rattle.std.proofs.lemmas.Str.{length-encode, encodes-chars}
use lib.Utf8.{encodes, encode}
use Rattle.std.specs.Str.{chars}
use Rattle.std.specs.Char.{len_utf8}
use Rattle.java_tokens.specs.Classes.{is_in_class, is_newline}
use Rattle.java_tokens.specs.Rules.{run_of, begins, up_to, quoted, quoted_in_line}
use Rattle.java_tokens.specs.Tokens.{byte_len}
use Rattle.java_tokens.specs.declared.char_class.CharClass.{CharClass}

pub run_of-end : (k : CharClass) (cs : List ℕ) (i : ℕ) → length cs ≤ i → run_of k (drop i cs) ≡ 0
unfolding run_of
run_of-end k cs i l = rw (drop_all i cs l) refl

pub run_of-more : (k : CharClass) (cs : List ℕ) (i : ℕ) → i < length cs → run_of k (drop i cs) ≡ (if is_in_class k (get_or cs i 0) then suc (run_of k (drop (i + 1) cs)) else 0)
unfolding run_of
run_of-more k cs i l = rw (drop_more cs i 0 l) refl

pub up_to-end : (ms cs : List ℕ) (i : ℕ) → length cs ≤ i → up_to ms (drop i cs) ≡ 0
unfolding up_to
up_to-end ms cs i l = rw (drop_all i cs l) refl

pub up_to-more : (ms cs : List ℕ) (i : ℕ) → i < length cs → up_to ms (drop i cs) ≡ (if begins ms (drop i cs) then length ms else suc (up_to ms (drop (i + 1) cs)))
unfolding up_to
up_to-more ms cs i l = rw (drop_more cs i 0 l) refl

pub quoted-end : (ms : List ℕ) (t : Bool) (cs : List ℕ) (i : ℕ) → length cs ≤ i → quoted ms t (drop i cs) ≡ 0
unfolding quoted
quoted-end ms true cs i l = rw (drop_all i cs l) refl
quoted-end ms false cs i l = rw (drop_all i cs l) refl

pub quoted-taken : (ms cs : List ℕ) (i : ℕ) → i < length cs → quoted ms true (drop i cs) ≡ suc (quoted ms false (drop (i + 1) cs))
unfolding quoted
quoted-taken ms cs i l = rw (drop_more cs i 0 l) refl

pub quoted-more : (ms cs : List ℕ) (i : ℕ) → i < length cs → quoted ms false (drop i cs) ≡ (if get_or cs i 0 == 92 then suc (quoted ms true (drop (i + 1) cs)) else if begins ms (drop i cs) then length ms else suc (quoted ms false (drop (i + 1) cs)))
unfolding quoted
quoted-more ms cs i l = rw (drop_more cs i 0 l) refl

pub quoted_in_line-end : (m : ℕ) (t : Bool) (cs : List ℕ) (i : ℕ) → length cs ≤ i → quoted_in_line m t (drop i cs) ≡ 0
unfolding quoted_in_line
quoted_in_line-end m true cs i l = rw (drop_all i cs l) refl
quoted_in_line-end m false cs i l = rw (drop_all i cs l) refl

pub quoted_in_line-taken : (m : ℕ) (cs : List ℕ) (i : ℕ) → i < length cs → quoted_in_line m true (drop i cs) ≡ (if is_newline (get_or cs i 0) then 0 else suc (quoted_in_line m false (drop (i + 1) cs)))
unfolding quoted_in_line
quoted_in_line-taken m cs i l = rw (drop_more cs i 0 l) refl

pub quoted_in_line-more : (m : ℕ) (cs : List ℕ) (i : ℕ) → i < length cs → quoted_in_line m false (drop i cs) ≡ (if is_newline (get_or cs i 0) then 0 else if get_or cs i 0 == 92 then suc (quoted_in_line m true (drop (i + 1) cs)) else if get_or cs i 0 == m then 1 else suc (quoted_in_line m false (drop (i + 1) cs)))
unfolding quoted_in_line
quoted_in_line-more m cs i l = rw (drop_more cs i 0 l) refl

pub quoted_in_line-plain : (m : ℕ) (cs : List ℕ) (i c : ℕ) → i < length cs → c ≡ get_or cs i c → is_newline c ≡ false → (c == 92) ≡ false → (c == m) ≡ false → quoted_in_line m false (drop i cs) ≡ suc (quoted_in_line m false (drop (i + 1) cs))
unfolding quoted_in_line
quoted_in_line-plain m cs i c l is a b d = rw (drop_more cs i c l, ← is, a, b, d) refl

both : (a b : Bool) → (a && b) ≡ true → b ≡ true
both true b e = e
both false b e = absurd cc

none : (a : Bool) → (a && false) ≡ false
none true = refl
none false = refl

-- what begins a text is no longer than it
pub begins-le : (ms cs : List ℕ) → begins ms cs ≡ true → length ms ≤ length cs
unfolding begins
begins-le [] cs e = omega arith
begins-le (m ∷ ms) [] e = absurd cc
begins-le (m ∷ ms) (c ∷ cs) e = let k = begins-le ms cs (both (m == c) (begins ms cs) e) in grind (arith, k)

pub begins-short : (ms cs : List ℕ) → length cs < length ms → begins ms cs ≡ false
unfolding begins
begins-short [] cs l = absurd (omega arith)
begins-short (m ∷ ms) [] l = refl
begins-short (m ∷ ms) (c ∷ cs) l = rw (begins-short ms cs (omega arith)) (none (m == c))

pub begins-end : (ms cs : List ℕ) (i : ℕ) → length ms ≤ i → begins (drop i ms) cs ≡ true
unfolding begins
begins-end ms cs i l = rw (drop_all i ms l) refl

pub begins-more : (ms cs : List ℕ) (i : ℕ) → i < length ms → i < length cs → begins (drop i ms) (drop i cs) ≡ (get_or ms i 0 == get_or cs i 0) && begins (drop (i + 1) ms) (drop (i + 1) cs)
unfolding begins
begins-more ms cs i l k = rw (drop_more ms i 0 l, drop_more cs i 0 k) refl

-- bytes
byte_len-append : (xs ys : List ℕ) → byte_len (xs ++ ys) ≡ byte_len xs + byte_len ys
unfolding byte_len
byte_len-append [] ys = omega arith
byte_len-append (x ∷ xs) ys = omega (arith, byte_len-append xs ys)

pub byte_len-split : (cs : List ℕ) (n : ℕ) → byte_len (take n cs) + byte_len (drop n cs) ≡ byte_len cs
unfolding byte_len
byte_len-split [] zero = refl
byte_len-split [] (suc n) = refl
byte_len-split (c ∷ cs) zero = omega arith
byte_len-split (c ∷ cs) (suc n) = omega (arith, byte_len-split cs n)

pub byte_len-more : (cs : List ℕ) (i : ℕ) → i < length cs → byte_len (take (i + 1) cs) ≡ byte_len (take i cs) + len_utf8 (get_or cs i 0)
unfolding byte_len
byte_len-more cs i l = rw (take_more cs i 0 l, byte_len-append (take i cs) (get_or cs i 0 ∷ [])) (omega arith)

pub byte_len-room : (cs : List ℕ) (i : ℕ) → i < length cs → byte_len (take i cs) + len_utf8 (get_or cs i 0) ≤ byte_len cs
byte_len-room cs i l = omega (arith, byte_len-more cs i l, byte_len-split cs (i + 1))

pub byte_len-encodes : (cs : List ℕ) → byte_len cs ≡ length (encodes cs)
unfolding byte_len
byte_len-encodes [] = refl
byte_len-encodes (c ∷ cs) = grind (arith, byte_len-encodes cs, length-encode c, length-append (encode c) (encodes cs))

pub byte_len-chars : (bs : List ℕ) → IsUtf8 bs → byte_len (chars bs) ≡ length bs
byte_len-chars bs u = byte_len-encodes (chars bs) ∙ ap length (encodes-chars bs u)

pub byte_len-nil : byte_len [] ≡ 0
unfolding byte_len
byte_len-nil = refl

pub byte_len-take-le : (cs : List ℕ) (n : ℕ) → byte_len (take n cs) ≤ byte_len cs
byte_len-take-le cs n = omega (arith, byte_len-split cs n)

pub ruleset runs = (run_of-end, run_of-more, up_to-end, up_to-more, quoted-end, quoted-taken, quoted-more, quoted_in_line-end, quoted_in_line-taken, quoted_in_line-more, byte_len-nil, byte_len-take-le, begins-le, begins-short, begins-end, begins-more, byte_len-more, byte_len-room, byte_len-chars)
