-- The members that instructions name (JVMS 4.4.2 and 6.5), and the keys of those that count.
use Rattle.std.specs.Prelude.{ℕ, ◌+◌, ◌*◌, Bool, true, ◌||◌, if◌then◌else◌, List, [], ◌∷◌, ◌++◌, get_or, Option, Some, None, is_some, option_and_then}
use Rattle.class_pool.specs.Spelling.{Entry}
use Rattle.class_pool.specs.Members.{all_three, member_in}
use Rattle.class_pool.specs.Units.{text_of}
use Rattle.type_names.specs.Names.{is_internal}
use Rattle.code_walk.specs.declared.walk.Instr.{Instr}
use Rattle.code_walk.specs.Opcodes.{from_to}
use Rattle.usage_counts.specs.Counts.{Key}

-- `getstatic`, `putstatic`, `getfield` and `putfield`.
abbrev pub names_field : ℕ → Bool
names_field op = from_to 0xB2 0xB5 op

-- `invokevirtual`, `invokespecial`, `invokestatic` and `invokeinterface`. `invokedynamic` names no member.
abbrev pub names_method : ℕ → Bool
names_method op = from_to 0xB6 0xB9 op

abbrev pub names_member : ℕ → Bool
names_member op = names_field op || names_method op

-- The opcode of an instruction, and the index after it.
abbrev pub opcode_at : List ℕ → Instr → ℕ
opcode_at bytes i = get_or bytes i.at 0

abbrev pub index_at : List ℕ → Instr → ℕ
index_at bytes i = 256 * get_or bytes (i.at + 1) 0 + get_or bytes (i.at + 2) 0

-- The class, the name and the descriptor of the member that an instruction names.
abbrev pub member_at : List Entry → List ℕ → Instr → Option (List ℕ × List ℕ × List ℕ)
member_at es bytes i = member_in es (index_at bytes i) (names_field (opcode_at bytes i))

-- The instruction names no member, or one that stands in the pool.
abbrev pub is_named : List Entry → List ℕ → Instr → Bool
is_named es bytes i = if names_member (opcode_at bytes i) then is_some (member_at es bytes i) else true

-- Owner, `.`, name, `:`, descriptor.
abbrev pub key : Key → Key → Key → Key
key owner name descriptor = owner ++ (46 ∷ (name ++ (58 ∷ descriptor)))

-- Members of arrays have no key: an array is no internal name.
abbrev pub internal_key : List ℕ × List ℕ × List ℕ → Option Key
internal_key t = if is_internal true t.0 then Some (key t.0 t.1 t.2) else None

-- The key of a member whose texts stand so in the pool, where all three can be decoded.
abbrev pub key_of : List ℕ × List ℕ × List ℕ → Option Key
key_of m = option_and_then internal_key (all_three (text_of m.0) (text_of m.1) (text_of m.2))

abbrev pub listed : Option Key → List Key
listed None = []
listed (Some k) = k ∷ []

-- The key that an instruction uses, where there is one.
abbrev pub used : List Entry → List ℕ → Instr → List Key
used es bytes i = if names_member (opcode_at bytes i) then listed (option_and_then key_of (member_at es bytes i)) else []
