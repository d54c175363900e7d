-- The first violation of a class file.
use Rattle.std.specs.Prelude.{ℕ, List, length, Option, Some, None, Result, Ok, Err, ⊤}
use Rattle.class_pool.specs.declared.fault.ClassFault.{ClassFault}
use Rattle.class_pool.specs.declared.fault.ClassCause.{ClassCause}
use Rattle.class_pool.specs.declared.fault.ClassCause.TheVariants.{Truncated, Magic, Version, Tag, Place, Extra, Descriptor, Name, Attribute, OutOfMemory}
use Rattle.class_pool.specs.Reading.{◌>>=◌, head_at}
use Rattle.class_shape.specs.declared.shapes.ClassShape.{ClassShape}
use Rattle.class_shape.specs.Reading.{body_at}
use Rattle.class_shape.specs.Meaning.{shape_of}

-- The first pass goes through the file in order, to its end; the second follows the used indices in file order.
unfoldable pub shape_read : List ℕ → Result ClassShape ClassFault
shape_read bytes = do
  h ← head_at (length bytes) bytes
  b ← body_at (length bytes) h.1
  shape_of h.0 b

abbrev pub fault_in : {A : Type 0} → Result A ClassFault → Option ClassFault
fault_in (Ok x) = None
fault_in (Err e) = Some e

-- The first fault in the order of the two passes, or None.
abbrev pub first_violation : List ℕ → Option ClassFault
first_violation bytes = fault_in (shape_read bytes)

-- The causes of the first pass: the bytes aren't the parts of a class file, end to end.
abbrev pub IsLayoutCause : ClassCause → Type 0
IsLayoutCause Truncated = ⊤
IsLayoutCause Magic = ⊤
IsLayoutCause Version = ⊤
IsLayoutCause Tag = ⊤
IsLayoutCause Place = ⊥
IsLayoutCause Extra = ⊤
IsLayoutCause Descriptor = ⊥
IsLayoutCause Name = ⊥
IsLayoutCause Attribute = ⊥
IsLayoutCause OutOfMemory = ⊥

-- The causes of the second pass: a used index, or what it names, doesn't serve for its use.
abbrev pub IsMeaningCause : ClassCause → Type 0
IsMeaningCause Truncated = ⊥
IsMeaningCause Magic = ⊥
IsMeaningCause Version = ⊥
IsMeaningCause Tag = ⊥
IsMeaningCause Place = ⊤
IsMeaningCause Extra = ⊥
IsMeaningCause Descriptor = ⊤
IsMeaningCause Name = ⊤
IsMeaningCause Attribute = ⊤
IsMeaningCause OutOfMemory = ⊥
