-- Places in a text by lines and UTF-16 units (LSP 3.17, "Position"), on its characters.
use Rattle.std.specs.Prelude.{◌≡◌, ℕ, zero, suc, ◌+◌, ◌-◌, ◌≤◌, ◌<◌, Bool, false, List, [], ◌∷◌, ◌++◌, if◌then◌else◌, nat_lt, ◌==◌, ◌&&◌, ◌||◌, not, length, drop, get_or, Option, Some, None, All, sum_by}
use Rattle.std.specs.Char.{len_utf8}

-- CR or LF.
unfoldable pub is_newline : ℕ → Bool
is_newline c = c == 13 || c == 10

-- How many UTF-16 units a character takes.
unfoldable pub units : ℕ → ℕ
units c = if nat_lt c 0x1_0000 then 1 else 2

-- Whether the text begins with LF.
abbrev pub starts_with_lf : List ℕ → Bool
starts_with_lf [] = false
starts_with_lf (c ∷ cs) = c == 10

-- Whether a line ends with c, which the others follow: at LF, or at a CR that no LF follows.
unfoldable pub ends_line : ℕ → List ℕ → Bool
ends_line c cs = c == 10 || (c == 13 && not (starts_with_lf cs))

-- How many bytes these characters take in UTF-8.
unfoldable pub byte_len : List ℕ → ℕ
byte_len [] = 0
byte_len (c ∷ cs) = len_utf8 c + byte_len cs

-- The text from the start of a line on, or none where it has no such line. Line 0 is always there.
unfoldable pub from_line : ℕ → List ℕ → Option (List ℕ)
from_line zero cs = Some cs
from_line (suc l) [] = None
from_line (suc l) (c ∷ cs) = if ends_line c cs then from_line l cs else from_line (suc l) cs

-- The text from a UTF-16 unit of its first line on: from the line's end where the line is shorter, and from
-- the start of a character where the unit is inside it.
unfoldable pub from_unit : ℕ → List ℕ → List ℕ
from_unit u [] = []
from_unit u (c ∷ cs) = if is_newline c then c ∷ cs else if nat_lt u (units c) then c ∷ cs else from_unit (u - units c) cs

-- How many of n bytes stand before that unit of the line that begins the rest.
abbrev pub place : ℕ → ℕ → Option (List ℕ) → Option ℕ
place n u None = None
place n u (Some cs) = Some (n - byte_len (from_unit u cs))

-- How many bytes of the text stand before a position, or none where it has no such line.
abbrev pub offset_of : List ℕ → ℕ → ℕ → Option ℕ
offset_of cs l u = place (byte_len cs) u (from_line l cs)

-- The line and unit n bytes further on, where the text begins at a unit of a line.
unfoldable pub position_from : ℕ → ℕ → ℕ → List ℕ → ℕ × ℕ
position_from l u n [] = (l, u)
position_from l u n (c ∷ cs) =
    if n == 0 then (l, u)
    else if ends_line c cs then position_from (l + 1) 0 (n - len_utf8 c) cs
    else position_from l (u + units c) (n - len_utf8 c) cs

-- The line and unit that n bytes stand before. Between the CR and the LF of one line end it is a unit past the line's end.
abbrev pub position_of : List ℕ → ℕ → ℕ × ℕ
position_of cs n = position_from 0 0 n cs

-- Whether the text ends with CR.
unfoldable pub ends_with_cr : List ℕ → Bool
ends_with_cr [] = false
ends_with_cr (c ∷ []) = c == 13
ends_with_cr (c ∷ d ∷ cs) = ends_with_cr (d ∷ cs)

-- Whether the place between these two parts of a text is between the CR and the LF of one line end.
abbrev pub splits_newline : List ℕ → List ℕ → Bool
splits_newline before after = ends_with_cr before && starts_with_lf after

-- A place within a line: these characters of the line stand before it, and take so many units.
pub record IsPlaceIn (cs : List ℕ) (line unit : ℕ) (before after : List ℕ) : Type 0 where
  pub on : from_line line cs ≡ Some (before ++ after)
  pub within : All (λ c. is_newline c ≡ false) before
  pub units_are : sum_by units before ≡ unit

-- The second text is what follows some place of the first.
pub record IsRest (text rest : List ℕ) : Type 0 where
  pub le : length rest ≤ length text
  pub is : rest ≡ drop (length text - length rest) text

-- Where lines end in a part of a text that begins at a place of it and that the rest follows: behind each LF, and behind
-- each CR that no LF follows. The texts are bytes: in UTF-8 CR and LF are one byte each, and no other character has these bytes.
unfoldable pub ends_in : ℕ → List ℕ → List ℕ → List ℕ
ends_in at [] rest = []
ends_in at (c ∷ cs) rest = if ends_line c (cs ++ rest) then (at + 1) ∷ ends_in (at + 1) cs rest else ends_in (at + 1) cs rest

-- Where the lines of a text begin.
abbrev pub line_starts : List ℕ → List ℕ
line_starts text = 0 ∷ ends_in 0 text []

-- These are where the lines of a text begin, unless there are none, which says that nobody has looked for them.
abbrev pub AreStarts : List ℕ → List ℕ → Type 0
AreStarts text starts = 0 < length starts → starts ≡ line_starts text

-- No line of the text ends.
abbrev pub EndsNever : List ℕ → Type 0
EndsNever text = (at : ℕ) → ends_in at text [] ≡ []

-- The first line of the text ends behind so many bytes.
pub record EndsAfter (text : List ℕ) (count : ℕ) : Type 0 where
  pub some : 0 < count
  pub le : count ≤ length text
  pub is : (at : ℕ) → ends_in at text [] ≡ (at + count) ∷ ends_in (at + count) (drop count text) []

-- The starts are those of a text that differs from this one only between two places: from `edge` up to `to` there, and up to `end`
-- here. Behind the edge both have an LF, or neither, unless the text begins there.
pub record IsEdited (starts text : List ℕ) (edge to end : ℕ) : Type 0 where
  pub prefix : List ℕ
  pub before : List ℕ
  pub after : List ℕ
  pub rest : List ℕ
  pub were : AreStarts (prefix ++ (before ++ rest)) starts
  pub is : text ≡ prefix ++ (after ++ rest)
  pub seam : 0 < length prefix → starts_with_lf (before ++ rest) ≡ starts_with_lf (after ++ rest)
  pub edge_is : edge ≡ length prefix
  pub to_is : to ≡ length prefix + length before
  pub end_is : end ≡ length prefix + length after

-- No entry is greater than a later one.
abbrev pub IsRising : List ℕ → Type 0
IsRising xs = (i j : ℕ) → i ≤ j → j < length xs → get_or xs i 0 ≤ get_or xs j 0
