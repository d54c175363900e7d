-- How many bytes the instructions of each opcode take (JVMS 6.5 and 7).
use Rattle.std.specs.Prelude.{ℕ, Bool, ◌||◌, ◌&&◌, ◌==◌, nat_le, if◌then◌else◌, Option, Some, None}
use Rattle.code_walk.specs.declared.opcodes.Form.{Form}
use Rattle.code_walk.specs.declared.opcodes.Form.TheVariants.{Fixed, Wide, TableSwitch, LookupSwitch}

abbrev pub from_to : ℕ → ℕ → ℕ → Bool
from_to low high op = nat_le low op && nat_le op high

-- Without operands: constants, most loads and stores, arithmetic, returns, `arraylength`, `athrow` and the monitors.
abbrev pub takes_one : ℕ → Bool
takes_one op = from_to 0x00 0x0F op || from_to 0x1A 0x35 op || from_to 0x3B 0x83 op || from_to 0x85 0x98 op || from_to 0xAC 0xB1 op || from_to 0xBE 0xBF op || from_to 0xC2 0xC3 op

-- `bipush`, `ldc`, loads and stores of any variable, `ret` and `newarray`.
abbrev pub takes_two : ℕ → Bool
takes_two op = op == 0x10 || op == 0x12 || from_to 0x15 0x19 op || from_to 0x36 0x3A op || op == 0xA9 || op == 0xBC

-- `sipush`, `ldc_w`, `iinc`, jumps, members, classes.
abbrev pub takes_three : ℕ → Bool
takes_three op = op == 0x11 || from_to 0x13 0x14 op || op == 0x84 || from_to 0x99 0xA8 op || from_to 0xB2 0xB8 op || op == 0xBB || op == 0xBD || from_to 0xC0 0xC1 op || from_to 0xC6 0xC7 op

-- `invokeinterface`, `invokedynamic`, and jumps over four bytes.
abbrev pub takes_five : ℕ → Bool
takes_five op = from_to 0xB9 0xBA op || from_to 0xC8 0xC9 op

-- The table of opcodes. None: no instruction has the opcode.
unfoldable pub form_of : ℕ → Option Form
form_of op =
    if takes_one op then Some (Fixed 1)
    else if takes_two op then Some (Fixed 2)
    else if takes_three op then Some (Fixed 3)
    else if op == 0xC5 then Some (Fixed 4)
    else if takes_five op then Some (Fixed 5)
    else if op == 0xC4 then Some Wide
    else if op == 0xAA then Some TableSwitch
    else if op == 0xAB then Some LookupSwitch
    else None

-- The bytes of `wide` with the instruction that it widens: `iinc`, or a load, a store or `ret`. None: it widens no other.
unfoldable pub widened : ℕ → Option ℕ
widened op = if op == 0x84 then Some 6 else if from_to 0x15 0x19 op || from_to 0x36 0x3A op || op == 0xA9 then Some 4 else None
