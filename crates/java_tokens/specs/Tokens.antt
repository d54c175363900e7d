-- The tokens of a text.
use Rattle.std.specs.Prelude.{◌≡◌, ℕ, ◌+◌, ◌<◌, ◌≤◌, Bool, List, [], ◌∷◌, take, drop}
use Rattle.std.specs.Char.{len_utf8}
use Rattle.std.specs.Str.{chars, IsCharBoundary}
use Rattle.java_tokens.specs.Rules.{rule, is_closed_at}
use Rattle.java_tokens.specs.declared.token.Token.{Token}

-- How many bytes these characters take in UTF-8.
unfoldable pub byte_len : List ℕ → ℕ
byte_len [] = 0
byte_len (c ∷ cs) = len_utf8 c + byte_len cs

-- These are the tokens of these characters, the first of which stands at byte `at`: the first token is
-- the one of the first rule that fits, and the others are the tokens of what follows it.
abbrev pub AreTokens : ℕ → List ℕ → List Token → Type 0
AreTokens at [] [] = Unit {0}
AreTokens at [] (t ∷ ts) = ⊥
AreTokens at (c ∷ cs) [] = ⊥
AreTokens at (c ∷ cs) (t ∷ ts) =
    (n : ℕ) × (rule c cs ≡ (t.kind, n)) × (t.start ≡ at) × (t.end ≡ at + byte_len (take n (c ∷ cs))) × AreTokens t.end (drop n (c ∷ cs)) ts

-- These are the tokens of the text, which is given by its bytes.
abbrev pub AreTokensOf : List ℕ → List Token → Type 0
AreTokensOf text tokens = AreTokens 0 (chars text) tokens

-- The tokens tile the places from `at` up to `end`: none is empty, and each begins where the one before ends.
abbrev pub Tile : ℕ → ℕ → List Token → Type 0
Tile at end [] = at ≡ end
Tile at end (t ∷ ts) = (t.start ≡ at) × (at < t.end) × Tile t.end end ts

-- The text has tokens.
pub record HasTokens (text : List ℕ) : Type 0 where
  pub all : List Token
  pub are : AreTokensOf text all

-- The text has no other tokens.
abbrev pub AreOnlyTokens : List ℕ → List Token → Type 0
AreOnlyTokens text tokens = (others : List Token) → AreTokensOf text others → others ≡ tokens

-- The token stands at whole characters of the text.
pub record IsWithin (text : List ℕ) (t : Token) : Type 0 where
  pub start : IsCharBoundary text t.start
  pub end : IsCharBoundary text t.end
  pub order : t.start ≤ t.end

abbrev pub AreWithin : List ℕ → List Token → Type 0
AreWithin text [] = Unit {0}
AreWithin text (t ∷ ts) = IsWithin text t × AreWithin text ts

-- Whether the token of the text is closed.
unfoldable pub is_closed : List ℕ → Token → Bool
is_closed text token = is_closed_at (chars (drop token.start text))
