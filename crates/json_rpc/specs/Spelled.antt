-- Frames in the words of LSP 3.17, "Header Part": header lines, an empty line, and a body.
use Rattle.std.specs.Prelude.{◌≡◌, ◌≢◌, ℕ, ◌+◌, ◌<◌, ◌≤◌, ◌==◌, ◌⊎◌, take, List, [], ◌∷◌, ◌++◌, length, codes, All}
use Rattle.std.specs.List.{AllPass, flat_map}
use Rattle.std.specs.Str.{str_to_ascii_lowercase}
use Rattle.std.specs.Str.Parse.{digits_value}
use Rattle.json_rpc.specs.Heads.{is_name, is_value, is_blank, is_digit, length_name}

-- What ends a line.
abbrev pub line_end : List ℕ
line_end = codes "\r\n"

-- The parts of a header line: one that tells the length, or another.
pub data HeaderLine : Type 0 where
  length_line : (name blanks digits spaces : List ℕ) → HeaderLine
  other_line : (name value : List ℕ) → HeaderLine

-- Its bytes: the name, a colon, the value, and CR LF.
abbrev pub line_text : HeaderLine → List ℕ
line_text (length_line name blanks digits spaces) = name ++ (58 ∷ (blanks ++ (digits ++ (spaces ++ line_end))))
line_text (other_line name value) = name ++ (58 ∷ (value ++ line_end))

-- The value that tells the length: 1 to 18 digits, after spaces or tabs and before spaces.
pub record TellsLength (name blanks digits spaces : List ℕ) : Type 0 where
  pub named : str_to_ascii_lowercase name ≡ length_name
  pub blank : AllPass is_blank blanks
  pub digit : AllPass is_digit digits
  pub some : 0 < length digits
  pub few : length digits ≤ 18
  pub space : AllPass (λ b. b == 32) spaces

-- Any other line: a name of one or more visible characters, and any value.
pub record TellsOther (name value : List ℕ) : Type 0 where
  pub some : 0 < length name
  pub visible : AllPass is_name name
  pub other : str_to_ascii_lowercase name ≢ length_name
  pub printable : AllPass is_value value

-- The parts are what they may be.
abbrev pub IsHeaderLine : HeaderLine → Type 0
IsHeaderLine (length_line name blanks digits spaces) = TellsLength name blanks digits spaces
IsHeaderLine (other_line name value) = TellsOther name value

-- The lengths that lines tell, in order.
abbrev pub lengths_of : List HeaderLine → List ℕ
lengths_of [] = []
lengths_of (length_line name blanks digits spaces ∷ lines) = digits_value 10 digits ∷ lengths_of lines
lengths_of (other_line name value ∷ lines) = lengths_of lines

-- Header lines that tell these lengths, and an empty line.
pub record AreHeaderLines (bytes lengths : List ℕ) : Type 0 where
  pub lines : List HeaderLine
  pub each : All IsHeaderLine lines
  pub tell : lengths_of lines ≡ lengths
  pub spelled : bytes ≡ flat_map line_text lines ++ line_end

-- A header part, which has at most 8,192 bytes: exactly one of its lines tells the length.
pub record IsHeaderPart (bytes : List ℕ) (length_told : ℕ) : Type 0 where
  pub lines : AreHeaderLines bytes (length_told ∷ [])
  pub short : length bytes ≤ 8192

-- A frame: a header part, and a body of the length that it tells, at most 16,777,216 bytes.
pub record IsFrame (bytes body : List ℕ) : Type 0 where
  pub part : List ℕ
  pub header : IsHeaderPart part (length body)
  pub short : length body ≤ 16777216
  pub spelled : bytes ≡ part ++ body

-- The bytes are a frame of this body, and then the rest.
pub record BeginsFrame (bytes body rest : List ℕ) : Type 0 where
  pub frame : List ℕ
  pub is : IsFrame frame body
  pub spelled : bytes ≡ frame ++ rest

-- The bytes begin with header lines that tell these lengths, and an empty line, in so many bytes, at most 8,192.
pub record BeginsPart (bytes lengths : List ℕ) (count : ℕ) : Type 0 where
  pub part : List ℕ
  pub rest : List ℕ
  pub lines : AreHeaderLines part lengths
  pub many : length part ≡ count
  pub short : count ≤ 8192
  pub spelled : bytes ≡ part ++ rest

-- The bytes begin a frame within its body: a header part, and fewer bytes than it tells.
pub record BeginsBody (bytes : List ℕ) : Type 0 where
  pub count : ℕ
  pub part : List ℕ
  pub body : List ℕ
  pub header : IsHeaderPart part count
  pub small : count ≤ 16777216
  pub few : length body < count
  pub spelled : bytes ≡ part ++ body

-- With these bytes added, the bytes are header lines of which at most one tells the length, and an empty line.
pub record BeginsLines (bytes more : List ℕ) : Type 0 where
  pub lengths : List ℕ
  pub one : length lengths ≤ 1
  pub lines : AreHeaderLines (bytes ++ more) lengths

-- The bytes begin such lines, and aren't all of them.
pub record GoesOn (bytes : List ℕ) : Type 0 where
  pub more : List ℕ
  pub some : 0 < length more
  pub begins : BeginsLines bytes more

-- A second line with the length begins at `line`, and the colon after its name stands at `colon`.
pub record SecondLength (bytes : List ℕ) (line colon : ℕ) : Type 0 where
  pub lines : List HeaderLine
  pub name : List ℕ
  pub rest : List ℕ
  pub each : All IsHeaderLine lines
  pub first : ℕ
  pub told : lengths_of lines ≡ first ∷ []
  pub named : str_to_ascii_lowercase name ≡ length_name
  pub place : line ≡ length (flat_map line_text lines)
  pub colon_place : colon ≡ line + length name
  pub spelled : bytes ≡ flat_map line_text lines ++ (name ++ (58 ∷ rest))

-- The byte at this place is the first that can't stand there: no header part begins with the bytes up to and with it. A
-- second length is left to the next definition.
pub record IsUnfit (bytes : List ℕ) (place : ℕ) : Type 0 where
  pub short : place < 8192
  pub within : place < length bytes
  pub before : GoesOn (take place bytes)
  pub none : (more : List ℕ) → BeginsLines (take (place + 1) bytes) more → ⊥
  pub no_second : (line : ℕ) → SecondLength (take (place + 1) bytes) line place → ⊥

-- Where a header part is refused: at its 8,193rd byte, at the first byte that can't stand there, or at the start of a
-- second line with the length, which is met at its colon.
abbrev pub IsRefusedAt : List ℕ → ℕ → Type 0
IsRefusedAt bytes place =
    ((place ≡ 8192) × (8192 < length bytes) × GoesOn (take 8192 bytes))
    ⊎ (IsUnfit bytes place ⊎ ((colon : ℕ) × (colon < 8192) × SecondLength bytes place colon))
