-- What may stand in the header part of a frame (LSP 3.17, "Header Part"), byte by byte: lines of a name, `:` and a value,
-- each with CR LF, then an empty line. A line `Content-Length`, compared without case, tells the length.
use Rattle.std.specs.Prelude.{◌≤◌, ℕ, ◌+◌, ◌*◌, ◌-◌, ◌^◌, min, Bool, true, false, List, [], ◌∷◌, if◌then◌else◌, nat_le, nat_lt, ◌==◌, ◌&&◌, ◌||◌, not, codes, slice_get, Option, Some, None}
use Rattle.std.specs.Char.{to_ascii_lowercase}
use Rattle.json_rpc.specs.declared.header.Mode.{Mode}
use Rattle.json_rpc.specs.declared.header.Mode.TheVariants.{Line, Name, Value, Blank, Digits, Tail, LineEnd, LastEnd}
use Rattle.json_rpc.specs.declared.header.Head.{Head}
use Rattle.json_rpc.specs.declared.header.Step.{Step}
use Rattle.json_rpc.specs.declared.header.Step.TheVariants.{On, Done, Stop, Twice}
use Rattle.json_rpc.specs.declared.header.Reading.{Reading}
use Rattle.json_rpc.specs.declared.header.Reading.TheVariants.{More, Whole, Bad}

-- Before the first byte of a header part.
abbrev pub start : Head
start = record { mode = Line; matched = 0; told = false; digits = 0; length = 0 }

-- A byte of a header's name: visible ASCII other than the colon.
abbrev pub is_name : ℕ → Bool
is_name b = (nat_le 33 b && nat_le b 126) && not (b == 58)

-- A byte of a header's value: visible ASCII, a space or a tab.
abbrev pub is_value : ℕ → Bool
is_value b = (nat_le 32 b && nat_le b 126) || (b == 9)

-- A space or a tab.
abbrev pub is_blank : ℕ → Bool
is_blank b = (b == 32) || (b == 9)

-- An ASCII digit.
abbrev pub is_digit : ℕ → Bool
is_digit b = nat_le 48 b && nat_le b 57

-- The name of the line with the length, in small letters.
abbrev pub length_name : List ℕ
length_name = codes "content-length"

-- Whether there is a byte, and it is this one.
abbrev pub is_some_of : Option ℕ → ℕ → Bool
is_some_of None b = false
is_some_of (Some a) b = a == b

-- How much of that name the line has had with one byte more, 15 for another name.
abbrev pub matching : ℕ → ℕ → ℕ
matching m b = if is_some_of (slice_get length_name m) (to_ascii_lowercase b) then m + 1 else 15

-- The same, with something else to stand next.
abbrev pub next : Head → Mode → Head
next h m = record h { mode = m }

-- The first byte of a line.
unfoldable pub at_line : Head → ℕ → Step
at_line h b = if b == 13 then On (next h LastEnd) else if is_name b then On (record (next h Name) { matched = matching 0 b }) else Stop

-- A byte of a name. A second line with a length is met at its colon.
unfoldable pub at_name : Head → ℕ → Step
at_name h b =
    if b == 58 then (if h.matched == 14 then (if h.told then Twice else On (record (next h Blank) { told = true })) else On (next h Value))
    else if is_name b then On (record (next h Name) { matched = matching h.matched b }) else Stop

-- A byte of a value that is skipped.
unfoldable pub at_value : Head → ℕ → Step
at_value h b = if b == 13 then On (next h LineEnd) else if is_value b then On (next h Value) else Stop

-- One digit more of the length, the n-th; 18 digits never reach the bound.
abbrev pub digit : Head → ℕ → ℕ → Step
digit h n b = On (record (next h Digits) { digits = n; length = min (10 * h.length + (b - 48)) (2 ^ 64 - 1) })

-- A byte before the digits of the length.
unfoldable pub at_blank : Head → ℕ → Step
at_blank h b = if is_blank b then On (next h Blank) else if is_digit b then digit h 1 b else Stop

-- A byte after a digit of the length; it has at most 18.
unfoldable pub at_digits : Head → ℕ → Step
at_digits h b =
    if is_digit b then (if nat_lt h.digits 18 then digit h (h.digits + 1) b else Stop)
    else if b == 32 then On (next h Tail) else if b == 13 then On (next h LineEnd) else Stop

-- A byte after the digits and a space.
unfoldable pub at_tail : Head → ℕ → Step
at_tail h b = if b == 32 then On (next h Tail) else if b == 13 then On (next h LineEnd) else Stop

-- What a byte does by what may stand next.
abbrev pub by_mode : Mode → Head → ℕ → Step
by_mode Line h b = at_line h b
by_mode Name h b = at_name h b
by_mode Value h b = at_value h b
by_mode Blank h b = at_blank h b
by_mode Digits h b = at_digits h b
by_mode Tail h b = at_tail h b
by_mode LineEnd h b = if b == 10 then On (record (next h Line) { matched = 0 }) else Stop
by_mode LastEnd h b = if b == 10 then Done else Stop

-- What a byte does to a header part.
unfoldable pub step : Head → ℕ → Step
step h b = by_mode h.mode h b

-- Where the line begins that the next byte is in.
abbrev pub line_after : ℕ → ℕ → Mode → ℕ
line_after n line Line = n + 1
line_after n line Name = line
line_after n line Value = line
line_after n line Blank = line
line_after n line Digits = line
line_after n line Tail = line
line_after n line LineEnd = line
line_after n line LastEnd = line

-- What a header part is after a step, where the rest of it is f of what is known then.
abbrev pub after : ℕ → ℕ → Head → Step → (Head → Reading) → Reading
after n line h (On g) f = f g
after n line h Done f = Whole (n + 1) h
after n line h Stop f = Bad n
after n line h Twice f = Bad line

-- What a header part is, where its first n bytes have led to h and its line begins at `line`. It has at most 8,192 bytes.
unfoldable pub scan_from : ℕ → ℕ → Head → List ℕ → Reading
scan_from n line h [] = More
scan_from n line h (b ∷ bs) = if nat_le 8192 n then Bad n else after n line h (step h b) (λ g. scan_from (n + 1) (line_after n line g.mode) g bs)

-- The places in it are at most n.
abbrev pub IsWithin : ℕ → Reading → Type 0
IsWithin n More = Unit {0}
IsWithin n (Whole k h) = k ≤ n
IsWithin n (Bad k) = k ≤ n
