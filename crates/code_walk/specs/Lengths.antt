-- The length of the instruction that stands at a place of the code, and what can be wrong with it (JVMS 6.5).
use Rattle.std.specs.Prelude.{◌≡◌, ℕ, ◌+◌, ◌-◌, ◌*◌, ◌%◌, ◌≤◌, nat_lt, if◌then◌else◌, List, [], ◌∷◌, length, drop, Option, Some, None, Result, Ok, Err}
use Rattle.byteorder.specs.Endian.{big_number}
use Rattle.code_walk.specs.declared.opcodes.Form.{Form}
use Rattle.code_walk.specs.declared.opcodes.Form.TheVariants.{Fixed, Wide, TableSwitch, LookupSwitch}
use Rattle.code_walk.specs.declared.fault.WalkCause.{WalkCause}
use Rattle.code_walk.specs.declared.fault.WalkCause.TheVariants.{Opcode, Cut, Switch}
use Rattle.code_walk.specs.Opcodes.{form_of, widened}

-- An instruction's fixed part, and the table after it; no table has a length where its bounds are the wrong way round.
pub record Extent : Type 0 where
  pub fixed : ℕ
  pub table : Option ℕ

-- The bytes after a switch's opcode up to a multiple of four, counted from the code's start.
abbrev pub padding : ℕ → ℕ
padding at = 3 - at % 4

-- The signed number of four bytes, counted from the least one: -2 ^ 31 is 0, and 0 is 2 ^ 31.
abbrev pub rank : List ℕ → ℕ
rank bytes = (big_number 4 bytes + 2147483648) % 4294967296

-- Four bytes for each jump from `low` to `high`.
abbrev pub jumps : ℕ → ℕ → Option ℕ
jumps low high = if nat_lt high low then None else Some (4 * (high - low + 1))

-- Eight bytes for each pair of a match and a jump. Their number is signed, and isn't negative.
abbrev pub pairs : ℕ → Option ℕ
pairs count = if nat_lt count 2147483648 then None else Some (8 * (count - 2147483648))

abbrev pub fixed_extent : ℕ → Extent
fixed_extent n = record { fixed = n; table = Some 0 }

-- `tableswitch`: default, low, high, and the jumps.
abbrev pub table_extent : ℕ → List ℕ → Extent
table_extent at bytes = record { fixed = 13 + padding at; table = jumps (rank (drop (5 + padding at) bytes)) (rank (drop (9 + padding at) bytes)) }

-- `lookupswitch`: default, the number of pairs, and the pairs.
abbrev pub lookup_extent : ℕ → List ℕ → Extent
lookup_extent at bytes = record { fixed = 9 + padding at; table = pairs (rank (drop (5 + padding at) bytes)) }

-- `wide`, before the opcode that it widens. At the code's end that opcode is missing.
abbrev pub wide_fixed : List ℕ → Option ℕ
wide_fixed [] = Some 2
wide_fixed (op ∷ rest) = widened op

abbrev pub some_fixed : Option ℕ → Option Extent
some_fixed (Some n) = Some (fixed_extent n)
some_fixed None = None

abbrev pub extent_of : ℕ → List ℕ → Option Form → Option Extent
extent_of at rest None = None
extent_of at bytes (Some (Fixed n)) = Some (fixed_extent n)
extent_of at bytes (Some Wide) = some_fixed (wide_fixed (drop 1 bytes))
extent_of at bytes (Some TableSwitch) = Some (table_extent at bytes)
extent_of at bytes (Some LookupSwitch) = Some (lookup_extent at bytes)

-- What the table of opcodes says of the bytes at a place of the code. None: the opcode, or the one after `wide`, is unknown.
unfoldable pub extent_at : ℕ → List ℕ → Option Extent
extent_at at [] = None
extent_at at (op ∷ rest) = extent_of at (op ∷ rest) (form_of op)

abbrev pub whole : ℕ → Option ℕ → Option ℕ
whole fixed None = None
whole fixed (Some table) = Some (fixed + table)

abbrev pub length_of : Option Extent → Option ℕ
length_of None = None
length_of (Some e) = whole e.fixed e.table

-- The length of the instruction at a place of the code, where the tables give one.
abbrev pub length_at : ℕ → List ℕ → Option ℕ
length_at at bytes = length_of (extent_at at bytes)

abbrev pub table_fault : ℕ → ℕ → Option ℕ → Option WalkCause
table_fault left fixed None = Some Switch
table_fault left fixed (Some table) = if nat_lt left (fixed + table) then Some Cut else None

-- The first fault, where so many bytes of the code are left: the opcode, the fixed part, the bounds of the table, the table.
abbrev pub fault_of : ℕ → Option Extent → Option WalkCause
fault_of left None = Some Opcode
fault_of left (Some e) = if nat_lt left e.fixed then Some Cut else table_fault left e.fixed e.table

abbrev pub fault_at : ℕ → List ℕ → Option WalkCause
fault_at at bytes = fault_of (length bytes) (extent_at at bytes)

-- A length is that of the extent, within the bytes that are left; a cause is that of the first fault.
abbrev pub Measures : ℕ → Option Extent → Result ℕ WalkCause → Type 0
Measures left e (Ok len) = (length_of e ≡ Some len) × (len ≤ left)
Measures left e (Err cause) = fault_of left e ≡ Some cause
