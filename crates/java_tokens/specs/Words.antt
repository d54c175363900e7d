-- Texts that are one word.
use Rattle.std.specs.Prelude.{◌≡◌, ℕ, ◌-◌, ◌==◌, ◌&&◌, ◌||◌, Bool, true, false, All, List, [], ◌∷◌, length, take, drop}
use Rattle.std.specs.List.{list_all}
use Rattle.std.specs.Char.{is_ascii, is_ascii_alphabetic, is_ascii_alphanumeric}
use Rattle.std.specs.Str.{chars, IsUtf8}
use Rattle.java_tokens.specs.Classes.{is_word_start, is_word_part}
use Rattle.java_tokens.specs.Tokens.{AreTokensOf}
use Rattle.java_tokens.specs.declared.token.Token.{Token}
use Rattle.java_tokens.specs.declared.token.TokenKind.TheVariants as kind

-- Whether these characters are a word: the first may begin one, and the others go on with it (JLS 3.8).
unfoldable pub is_word : List ℕ → Bool
is_word [] = false
is_word (c ∷ cs) = is_word_start c && list_all is_word_part cs

-- Whether a word begins with the first of these characters.
abbrev pub begins_word : List ℕ → Bool
begins_word [] = false
begins_word (c ∷ cs) = is_word_start c

-- The same of ASCII characters by tests that compute: letters, digits, `_` and `$`, the first one no digit.
abbrev pub is_ascii_word_start : ℕ → Bool
is_ascii_word_start c = (is_ascii_alphabetic c || c == 95) || c == 36

abbrev pub is_ascii_word_part : ℕ → Bool
is_ascii_word_part c = (is_ascii_alphanumeric c || c == 95) || c == 36

abbrev pub is_ascii_word : List ℕ → Bool
is_ascii_word [] = false
is_ascii_word (c ∷ cs) = is_ascii_word_start c && list_all is_ascii_word_part cs

-- The one token of a text that is a word.
abbrev pub word_token : List ℕ → Token
word_token text = record { kind = kind.Word; start = 0; end = length text }

-- A token of the kind of words is a word by its text.
abbrev pub IsWordByText : List ℕ → Token → Type 0
IsWordByText text t = t.kind ≡ kind.Word → is_word (chars (take (t.end - t.start) (drop t.start text))) ≡ true

-- What holds of texts that are words.
pub record WordLaws : Type 0 where
  -- a text of ASCII characters is a word where the tests say so
  pub ascii : (text : List ℕ) → list_all is_ascii text ≡ true → is_word (chars text) ≡ is_ascii_word text
  -- a word is one token
  pub one_token : (text : List ℕ) → IsUtf8 text → is_word (chars text) ≡ true → AreTokensOf text (word_token text ∷ [])
  -- no other text is one word
  pub no_other : (text : List ℕ) (end : ℕ) → AreTokensOf text (record { kind = kind.Word; start = 0; end = end } ∷ []) → is_word (chars text) ≡ true
  -- each token of this kind is a word
  pub each : (text : List ℕ) (tokens : List Token) → IsUtf8 text → AreTokensOf text tokens → All (IsWordByText text) tokens
