-- The signs of a text: its tokens other than white space and comments, each with its text.
use Rattle.std.specs.Prelude.{ℕ, zero, suc, ◌+◌, ◌-◌, Bool, true, false, ◌&&◌, ◌||◌, not, List, [], ◌∷◌, take, drop, map, if◌then◌else◌, codes, bytes_eq}
use Rattle.java_tokens.specs.declared.token.Token.{Token}
use Rattle.java_tokens.specs.declared.token.TokenKind.{TokenKind}
use Rattle.java_tokens.specs.declared.token.TokenKind.TheVariants.{White, Comment, Word}
use denote.Ref.{Bor}
use Rattle.java_units.specs.declared.lexemes.Lexeme.{Lexeme}

-- A sign: its text, whether it is an identifier, its number among all tokens of the text, and for a `{`
-- how many signs stand between it and its matching `}`, or to the end of the text without one.
pub record Sign : Type 0 where
  pub text : List ℕ
  pub is_name : Bool
  pub number : ℕ
  pub holds : ℕ

-- What the code's lexemes stand for.
unfoldable pub sign : Lexeme → Sign
sign l = record { text = l.word.now; is_name = l.is_name; number = l.number; holds = l.holds }

unfoldable pub seen : List Lexeme → List Sign
seen ls = map sign ls

unfoldable pub seens : List (Bor (List Lexeme)) → List (List Sign)
seens ls = map (λ l. seen l.now) ls

-- Whether the text stands in the table.
unfoldable pub has : List (List ℕ) → List ℕ → Bool
has [] w = false
has (x ∷ xs) w = bytes_eq x w || has xs w

-- The words that are no identifiers (JLS 3.9, 3.10.3, 3.10.8), short ones first.
unfoldable pub reserved : List (List ℕ)
reserved =
    codes "_" ∷ codes "do" ∷ codes "if" ∷ codes "for" ∷ codes "int" ∷ codes "new" ∷ codes "try" ∷ codes "byte"
    ∷ codes "case" ∷ codes "char" ∷ codes "else" ∷ codes "enum" ∷ codes "goto" ∷ codes "long" ∷ codes "null"
    ∷ codes "this" ∷ codes "true" ∷ codes "void" ∷ codes "break" ∷ codes "catch" ∷ codes "class"
    ∷ codes "const" ∷ codes "false" ∷ codes "final" ∷ codes "float" ∷ codes "short" ∷ codes "super"
    ∷ codes "throw" ∷ codes "while" ∷ codes "assert" ∷ codes "double" ∷ codes "import" ∷ codes "native"
    ∷ codes "public" ∷ codes "return" ∷ codes "static" ∷ codes "switch" ∷ codes "throws" ∷ codes "boolean"
    ∷ codes "default" ∷ codes "extends" ∷ codes "finally" ∷ codes "package" ∷ codes "private"
    ∷ codes "abstract" ∷ codes "continue" ∷ codes "strictfp" ∷ codes "volatile" ∷ codes "interface"
    ∷ codes "protected" ∷ codes "transient" ∷ codes "implements" ∷ codes "instanceof" ∷ codes "synchronized" ∷ []

abbrev pub is_blank : TokenKind → Bool
is_blank White = true
is_blank Comment = true
is_blank _ = false

abbrev pub is_word : TokenKind → Bool
is_word Word = true
is_word _ = false

-- The text of a token.
unfoldable pub text_of : List ℕ → Token → List ℕ
text_of text t = take (t.end - t.start) (drop t.start text)

-- The sign of token number n, before its block is counted.
unfoldable pub sign_of : List ℕ → ℕ → Token → Sign
sign_of text n t = record { text = text_of text t; is_name = is_word t.kind && not (has reserved (text_of text t)); number = n; holds = 0 }

-- The signs of these tokens, the first of which has the number n.
unfoldable pub signs_from : List ℕ → ℕ → List Token → List Sign
signs_from text n [] = []
signs_from text n (t ∷ ts) = if is_blank t.kind then signs_from text (n + 1) ts else sign_of text n t ∷ signs_from text (n + 1) ts

-- Whether the sign has this text.
unfoldable pub is : List ℕ → Sign → Bool
is w s = bytes_eq w s.text

-- How many signs come before the `}` that closes the block, where d further braces are open; braces
-- alone count.
unfoldable pub holding : ℕ → List Sign → ℕ
holding d [] = 0
holding zero (s ∷ ss) = if is (codes "}") s then 0 else suc (holding (if is (codes "{") s then 1 else 0) ss)
holding (suc d) (s ∷ ss) = suc (holding (if is (codes "}") s then d else if is (codes "{") s then suc (suc d) else suc d) ss)

-- The same signs, with each block counted.
unfoldable pub with_blocks : List Sign → List Sign
with_blocks [] = []
with_blocks (s ∷ ss) = record s { holds = if is (codes "{") s then holding 0 ss else 0 } ∷ with_blocks ss

-- The signs of the text, whose tokens are given.
abbrev pub signs_of : List ℕ → List Token → List Sign
signs_of text tokens = with_blocks (signs_from text 0 tokens)
