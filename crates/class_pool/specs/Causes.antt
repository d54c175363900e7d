-- The causes of faults: their numbers, and which of them can come from a header and a pool.
use Rattle.std.specs.Prelude.{ℕ, Option, Some, None, ⊤}
use Rattle.class_pool.specs.declared.fault.ClassCause.{ClassCause}
use Rattle.class_pool.specs.declared.fault.ClassCause.TheVariants.{Truncated, Magic, Version, Tag, Place, Extra, Descriptor, Name, Attribute, OutOfMemory}

-- The number by which replies tell a cause. Want of memory has none: a reply tells it in its own way.
abbrev pub cause_number : ClassCause → Option ℕ
cause_number Truncated = Some 1
cause_number Magic = Some 2
cause_number Version = Some 3
cause_number Tag = Some 4
cause_number Place = Some 5
cause_number Extra = Some 6
cause_number Descriptor = Some 7
cause_number Name = Some 8
cause_number Attribute = Some 9
cause_number OutOfMemory = None

-- What can be wrong with the bytes of a header and a pool (JVMS 4.1 and 4.4).
abbrev pub IsPoolCause : ClassCause → Type 0
IsPoolCause Truncated = ⊤
IsPoolCause Magic = ⊤
IsPoolCause Version = ⊤
IsPoolCause Tag = ⊤
IsPoolCause Place = ⊥
IsPoolCause Extra = ⊥
IsPoolCause Descriptor = ⊥
IsPoolCause Name = ⊥
IsPoolCause Attribute = ⊥
IsPoolCause OutOfMemory = ⊥
