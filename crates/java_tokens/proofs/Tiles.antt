-- One token more.
use Rattle.std.proofs.Common.{◌≡◌, ℕ, ◌+◌, ◌<◌, ap, sym, drop, take, arith, List, [], ◌∷◌, ◌++◌, length, subst, append_assoc, append-nil, slice_index, zero, suc, Bool, true, false, if◌then◌else◌, codes, ◌==◌}
use Rattle.std.proofs.lemmas.Str.{len_utf8_bounds}
use Rattle.java_tokens.specs.declared.token.TokenKind.{TokenKind}
use Rattle.java_tokens.specs.declared.token.TokenKind.TheVariants as kind
use Rattle.java_tokens.specs.declared.char_class.CharClass.TheVariants.{White, InLine, WordPart, NumberPart}
use Rattle.java_tokens.specs.Classes.{is_white, is_word_start, is_digit}
use Rattle.java_tokens.specs.Rules.{rule, run_of, begins, up_to, quoted, quoted_in_line}
use Rattle.java_tokens.specs.Tokens.{byte_len, AreTokens, Tile}
use Rattle.java_tokens.proofs.Runs.{byte_len-split, byte_len-nil}
use Rattle.java_tokens.specs.declared.token.Token.{Token}

first : (at : ℕ) (rest : List ℕ) (t : Token) (n : ℕ) (ts : List Token) → 0 < length rest → rule (slice_index rest 0) (drop 1 rest) ≡ (t.kind, n) → t.start ≡ at → t.end ≡ at + byte_len (take n rest) → AreTokens t.end (drop n rest) ts → AreTokens at rest (t ∷ ts)
first at [] t n ts l r s e are = absurd (omega arith)
first at (c ∷ cs) t n ts l r s e are = (n, r, s, e, are)

-- what completes the tokens with one more completes them with it
pub tiles-more : (cs rest : List ℕ) (at : ℕ) (tokens : List Token) (t : Token) (n : ℕ) → ((more : List Token) → AreTokens at rest more → AreTokens 0 cs (tokens ++ more)) → 0 < length rest → rule (slice_index rest 0) (drop 1 rest) ≡ (t.kind, n) → t.start ≡ at → t.end ≡ at + byte_len (take n rest) → (more : List Token) → AreTokens t.end (drop n rest) more → AreTokens 0 cs ((tokens ++ t ∷ []) ++ more)
tiles-more cs rest at tokens t n f l r s e more are =
    let P : List Token → Type 0 = λ x. AreTokens 0 cs x in
    subst P (sym (append_assoc tokens (t ∷ []) more)) (f (t ∷ more) (first at rest t n more l r s e are))

pub tiles-end : (cs rest : List ℕ) (at : ℕ) (tokens : List Token) → ((more : List Token) → AreTokens at rest more → AreTokens 0 cs (tokens ++ more)) → length rest ≡ 0 → AreTokens 0 cs tokens
tiles-end cs [] at tokens f l = let P : List Token → Type 0 = λ x. AreTokens 0 cs x in subst P (append-nil tokens) (f [] tt)
tiles-end cs (c ∷ rest) at tokens f l = absurd (omega arith)

either-some : (b : Bool) (x y : TokenKind × ℕ) → 0 < x.1 → 0 < y.1 → 0 < (if b then x else y).1
either-some true x y p q = p
either-some false x y p q = q

from_word : ℕ → List ℕ → TokenKind × ℕ
from_word c cs =
    if is_word_start c then (kind.Word, suc (run_of WordPart cs))
    else if is_digit c then (kind.Number, suc (run_of NumberPart cs))
    else (kind.Symbol, 1)

word-some : (c : ℕ) (cs : List ℕ) → 0 < (from_word c cs).1
unfolding from_word
word-some c cs =
    either-some (is_word_start c) (kind.Word, suc (run_of WordPart cs)) (if is_digit c then (kind.Number, suc (run_of NumberPart cs)) else (kind.Symbol, 1)) (omega arith)
    (either-some (is_digit c) (kind.Number, suc (run_of NumberPart cs)) (kind.Symbol, 1) (omega arith) (omega arith))

from_quote : ℕ → List ℕ → TokenKind × ℕ
from_quote c cs =
    if c == 34 then (kind.Text, suc (quoted_in_line 34 false cs))
    else if c == 39 then (kind.CharText, suc (quoted_in_line 39 false cs))
    else from_word c cs

quote-some : (c : ℕ) (cs : List ℕ) → 0 < (from_quote c cs).1
unfolding from_quote
quote-some c cs =
    either-some (c == 34) (kind.Text, suc (quoted_in_line 34 false cs)) (if c == 39 then (kind.CharText, suc (quoted_in_line 39 false cs)) else from_word c cs) (omega arith)
    (either-some (c == 39) (kind.CharText, suc (quoted_in_line 39 false cs)) (from_word c cs) (omega arith) (word-some c cs))

from_block : ℕ → List ℕ → TokenKind × ℕ
from_block c cs = if begins (34 ∷ 34 ∷ 34 ∷ []) (c ∷ cs) then (kind.Text, 3 + quoted (34 ∷ 34 ∷ 34 ∷ []) false (drop 2 cs)) else from_quote c cs

block-some : (c : ℕ) (cs : List ℕ) → 0 < (from_block c cs).1
unfolding from_block
block-some c cs = either-some (begins (34 ∷ 34 ∷ 34 ∷ []) (c ∷ cs)) (kind.Text, 3 + quoted (34 ∷ 34 ∷ 34 ∷ []) false (drop 2 cs)) (from_quote c cs) (omega arith) (quote-some c cs)

from_comment : ℕ → List ℕ → TokenKind × ℕ
from_comment c cs =
    if begins (codes "//") (c ∷ cs) then (kind.Comment, 2 + run_of InLine (drop 1 cs))
    else if begins (codes "/*") (c ∷ cs) then (kind.Comment, 2 + up_to (codes "*/") (drop 1 cs))
    else from_block c cs

comment-some : (c : ℕ) (cs : List ℕ) → 0 < (from_comment c cs).1
unfolding from_comment
comment-some c cs =
    either-some (begins (codes "//") (c ∷ cs)) (kind.Comment, 2 + run_of InLine (drop 1 cs)) (if begins (codes "/*") (c ∷ cs) then (kind.Comment, 2 + up_to (codes "*/") (drop 1 cs)) else from_block c cs) (omega arith)
    (either-some (begins (codes "/*") (c ∷ cs)) (kind.Comment, 2 + up_to (codes "*/") (drop 1 cs)) (from_block c cs) (omega arith) (block-some c cs))

-- No rule takes an empty token.
pub rule-some : (c : ℕ) (cs : List ℕ) → 0 < (rule c cs).1
unfolding rule from_comment from_block from_quote from_word
rule-some c cs =
    either-some (is_white c) (kind.White, suc (run_of White cs)) (from_comment c cs) (omega arith) (comment-some c cs)

byte_len-some : (n c : ℕ) (cs : List ℕ) → 0 < n → 0 < byte_len (take n (c ∷ cs))
unfolding byte_len
byte_len-some zero c cs l = absurd (omega arith)
byte_len-some (suc n) c cs l = omega (arith, (len_utf8_bounds c).0)

-- The tokens of a text tile it.
pub tokens-tile : (at : ℕ) (cs : List ℕ) (ts : List Token) → AreTokens at cs ts → Tile at (at + byte_len cs) ts
tokens-tile at [] [] are = omega (arith, byte_len-nil)
tokens-tile at [] (t ∷ ts) are = absurd are
tokens-tile at (c ∷ cs) [] are = absurd are
tokens-tile at (c ∷ cs) (t ∷ ts) (n, r, s, e, are) =
    let some : 0 < n = subst (λ x. 0 < x) (ap (λ p. p.1) r) (rule-some c cs) in
    let P : ℕ → Type 0 = λ x. Tile t.end x ts in
    (s, omega (arith, e, byte_len-some n c cs some), subst P (omega (arith, e, byte_len-split (c ∷ cs) n)) (tokens-tile t.end (drop n (c ∷ cs)) ts are))
