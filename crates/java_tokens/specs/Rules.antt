-- The rules of tokens, on the characters that are left.
use Rattle.std.specs.Prelude.{ℕ, ◌+◌, suc, Bool, true, false, List, [], ◌∷◌, if◌then◌else◌, ◌==◌, ◌&&◌, ◌||◌, length, drop, codes}
use Rattle.java_tokens.specs.Classes.{is_in_class, is_white, is_newline, is_word_start, is_digit}
use Rattle.java_tokens.specs.declared.char_class.CharClass.{CharClass}
use Rattle.java_tokens.specs.declared.char_class.CharClass.TheVariants.{White, InLine, WordPart, NumberPart}
use Rattle.java_tokens.specs.declared.token.TokenKind.{TokenKind}
use Rattle.java_tokens.specs.declared.token.TokenKind.TheVariants as kind

-- How many characters at the front are of the class, up to the first that is not.
unfoldable pub run_of : CharClass → List ℕ → ℕ
run_of k [] = 0
run_of k (c ∷ cs) = if is_in_class k c then suc (run_of k cs) else 0

-- Whether the mark begins the text.
unfoldable pub begins : List ℕ → List ℕ → Bool
begins [] cs = true
begins (m ∷ mark) [] = false
begins (m ∷ mark) (c ∷ cs) = (m == c) && begins mark cs

-- How many characters there are up to and with the first mark, or to the end without one.
unfoldable pub up_to : List ℕ → List ℕ → ℕ
up_to mark [] = 0
up_to mark (c ∷ cs) = if begins mark (c ∷ cs) then length mark else suc (up_to mark cs)

-- The same, where a backslash takes the next character with it; `taken` says that the first character is taken so.
unfoldable pub quoted : List ℕ → Bool → List ℕ → ℕ
quoted mark taken [] = 0
quoted mark true (c ∷ cs) = suc (quoted mark false cs)
quoted mark false (c ∷ cs) =
    if c == 92 then suc (quoted mark true cs)
    else if begins mark (c ∷ cs) then length mark
    else suc (quoted mark false cs)

-- The same with one quote within a line: it ends before CR or LF, which no backslash takes.
unfoldable pub quoted_in_line : ℕ → Bool → List ℕ → ℕ
quoted_in_line quote taken [] = 0
quoted_in_line quote true (c ∷ cs) = if is_newline c then 0 else suc (quoted_in_line quote false cs)
quoted_in_line quote false (c ∷ cs) =
    if is_newline c then 0
    else if c == 92 then suc (quoted_in_line quote true cs)
    else if c == quote then 1
    else suc (quoted_in_line quote false cs)

-- The first rule that fits where c is the first character and cs the others: the kind of the token, and
-- how many characters the longest such token has. 34 is `"` and 39 is `'`.
unfoldable pub rule : ℕ → List ℕ → TokenKind × ℕ
rule c cs =
    if is_white c then (kind.White, suc (run_of White cs))
    else if begins (codes "//") (c ∷ cs) then (kind.Comment, 2 + run_of InLine (drop 1 cs))
    else if begins (codes "/*") (c ∷ cs) then (kind.Comment, 2 + up_to (codes "*/") (drop 1 cs))
    else if begins (34 ∷ 34 ∷ 34 ∷ []) (c ∷ cs) then (kind.Text, 3 + quoted (34 ∷ 34 ∷ 34 ∷ []) false (drop 2 cs))
    else if c == 34 then (kind.Text, suc (quoted_in_line 34 false cs))
    else if c == 39 then (kind.CharText, suc (quoted_in_line 39 false cs))
    else if is_word_start c then (kind.Word, suc (run_of WordPart cs))
    else if is_digit c then (kind.Number, suc (run_of NumberPart cs))
    else (kind.Symbol, 1)

-- Whether the mark stands among these characters.
unfoldable pub has_mark : List ℕ → List ℕ → Bool
has_mark mark [] = false
has_mark mark (c ∷ cs) = begins mark (c ∷ cs) || has_mark mark cs

-- The same, where a backslash takes the next character with it, as in `quoted`.
unfoldable pub has_quote : List ℕ → Bool → List ℕ → Bool
has_quote mark taken [] = false
has_quote mark true (c ∷ cs) = has_quote mark false cs
has_quote mark false (c ∷ cs) =
    if c == 92 then has_quote mark true cs
    else if begins mark (c ∷ cs) then true
    else has_quote mark false cs

-- The same with one quote before the end of the line, as in `quoted_in_line`.
unfoldable pub has_quote_in_line : ℕ → Bool → List ℕ → Bool
has_quote_in_line quote taken [] = false
has_quote_in_line quote true (c ∷ cs) = if is_newline c then false else has_quote_in_line quote false cs
has_quote_in_line quote false (c ∷ cs) =
    if is_newline c then false
    else if c == 92 then has_quote_in_line quote true cs
    else if c == quote then true
    else has_quote_in_line quote false cs

-- Whether the token that begins these characters is closed: a comment of the form `/* */` by its `*/`, a text
-- block by its three quotes, another text or a character text by its quote (JLS 3.7, 3.10.4 to 3.10.6). What
-- has no mark at its end is closed: other tokens, and a comment that a line ends.
unfoldable pub is_closed_at : List ℕ → Bool
is_closed_at cs =
    if begins (codes "/*") cs then has_mark (codes "*/") (drop 2 cs)
    else if begins (34 ∷ 34 ∷ 34 ∷ []) cs then has_quote (34 ∷ 34 ∷ 34 ∷ []) false (drop 3 cs)
    else if begins (34 ∷ []) cs then has_quote_in_line 34 false (drop 1 cs)
    else if begins (39 ∷ []) cs then has_quote_in_line 39 false (drop 1 cs)
    else true
