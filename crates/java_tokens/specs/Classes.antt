-- The classes of characters, by their Unicode code points.
use Rattle.std.specs.Prelude.{ℕ, Bool, nat_le, ◌==◌, ◌&&◌, ◌||◌, not}
use Rattle.unicode_ident.specs.Ident.{is_xid_start, is_xid_continue}
use Rattle.java_tokens.specs.declared.char_class.CharClass.{CharClass}
use Rattle.java_tokens.specs.declared.char_class.CharClass.TheVariants.{White, InLine, WordPart, NumberPart}

-- Space, tab, form feed, CR or LF (JLS 3.6 and 3.4).
unfoldable pub is_white : ℕ → Bool
is_white c = (((c == 32 || c == 9) || c == 12) || c == 13) || c == 10

-- CR or LF.
unfoldable pub is_newline : ℕ → Bool
is_newline c = c == 13 || c == 10

-- A word begins with a character that is XID_Start (UAX 31), with `_` or with `$`.
unfoldable pub is_word_start : ℕ → Bool
is_word_start c = (is_xid_start c || c == 95) || c == 36

-- A word goes on with characters that are XID_Continue (UAX 31) and with `$`.
unfoldable pub is_word_part : ℕ → Bool
is_word_part c = is_xid_continue c || c == 36

-- A number goes on with the characters of a word and with `.`.
unfoldable pub is_number_part : ℕ → Bool
is_number_part c = is_word_part c || c == 46

-- An ASCII digit.
unfoldable pub is_digit : ℕ → Bool
is_digit c = nat_le 48 c && nat_le c 57

-- Whether the character is of the class.
abbrev pub is_in_class : CharClass → ℕ → Bool
is_in_class White c = is_white c
is_in_class InLine c = not (is_newline c)
is_in_class WordPart c = is_word_part c
is_in_class NumberPart c = is_number_part c
