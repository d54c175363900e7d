-- Texts that are identifiers.
use Rattle.std.specs.Prelude.{◌≡◌, ℕ, Bool, true, ◌&&◌, not, List}
use Rattle.std.specs.List.{list_all}
use Rattle.std.specs.Char.{is_ascii}
use Rattle.std.specs.Str.{chars}
use Rattle.java_tokens.specs.Words.{is_word, is_ascii_word}
use Rattle.java_units.specs.Signs.{has, reserved}

-- Whether the text is an identifier: a word that is not reserved (JLS 3.8).
unfoldable pub is_identifier : List ℕ → Bool
is_identifier text = is_word (chars text) && not (has reserved text)

-- The same of an ASCII text, by tests that compute.
unfoldable pub is_ascii_identifier : List ℕ → Bool
is_ascii_identifier text = is_ascii_word text && not (has reserved text)

-- A text of ASCII characters is an identifier where the tests say so.
abbrev pub AsciiIdentifiers : Type 0
AsciiIdentifiers = (text : List ℕ) → list_all is_ascii text ≡ true → is_identifier text ≡ is_ascii_identifier text
