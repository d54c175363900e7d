-- Reading the `Code` attributes of a class file's methods from left to right.
use Rattle.std.specs.Prelude.{ℕ, ◌+◌, ◌-◌, ◌*◌, List, [], ◌∷◌, length, Result, Ok, Err, ◌==◌, if◌then◌else◌}
use Rattle.class_pool.specs.declared.fault.ClassFault.{ClassFault}
use Rattle.class_pool.specs.declared.fault.ClassCause.{ClassCause}
use Rattle.class_pool.specs.declared.fault.ClassCause.TheVariants.{Truncated, Magic, Version, Tag, Place, Extra, Descriptor, Name, Attribute, OutOfMemory}
use Rattle.class_pool.specs.Spelling.{Entry}
use Rattle.class_pool.specs.Reading.{◌>>=◌, on_ok, number_at, block_at, need, cut, head_at, head_read}
use Rattle.class_shape.specs.Reading.{AttributeSeen, attribute_at, counted_at, rest_of, methods_read}
use Rattle.class_shape.specs.Meaning.{joined}
use Rattle.code_walk.specs.declared.fault.WalkFault.{WalkFault}
use Rattle.code_walk.specs.declared.fault.WalkCause.{WalkCause}
use Rattle.code_walk.specs.declared.fault.WalkCause.TheVariants.{Attribute as Bad, OutOfMemory as Want}
use Rattle.code_walk.specs.Code.{is_code}

-- The code at the front of a `Code` attribute's bytes, which end at `total`.
unfoldable pub front_at : ℕ → List ℕ → Result (List ℕ × List ℕ) ClassFault
front_at total bytes = do
  stack ← number_at total 2 bytes
  locals ← number_at total 2 stack.1
  len ← number_at total 4 locals.1
  block_at total len.0 len.1

-- The bytes after the handlers and the attributes.
unfoldable pub tables_at : ℕ → List ℕ → Result (List ℕ) ClassFault
tables_at total bytes = do
  count ← number_at total 2 bytes
  handlers ← block_at total (8 * count.0) count.1
  on_ok rest_of (counted_at total (attribute_at total) handlers.1)

-- The length of the code in the bytes of a `Code` attribute.
unfoldable pub code_at : ℕ → List ℕ → Result ℕ ClassFault
code_at total body = do
  code ← front_at total body
  rest ← tables_at total code.1
  all ← need (length rest == 0) (cut total)
  Ok (length code.0)

abbrev pub of_attribute : ℕ → Result ℕ ClassFault → Result ℕ ClassFault
of_attribute len_at (Ok n) = Ok n
of_attribute len_at (Err e) = Err (record { at = len_at; cause = Attribute })

abbrev pub range_of : ℕ → Result ℕ ClassFault → Result (List (ℕ × ℕ)) ClassFault
range_of start (Ok n) = Ok ((start, start + n) ∷ [])
range_of start (Err e) = Err e

-- What one attribute of a method gives: the range of its code, and nothing where it is no `Code`.
unfoldable pub attribute_ranges : List Entry → AttributeSeen → Result (List (ℕ × ℕ)) ClassFault
attribute_ranges es a = if is_code es a then range_of (a.end - length a.body + 8) (of_attribute a.len_at (code_at a.end a.body)) else Ok []

abbrev pub method_ranges : List Entry → List AttributeSeen → Result (List (ℕ × ℕ)) ClassFault
method_ranges es attributes = joined (attribute_ranges es) attributes

-- The ranges of the code of the class file that the bytes begin with.
unfoldable pub codes_read : List ℕ → Result (List (ℕ × ℕ)) ClassFault
codes_read bytes = do
  h ← head_read (head_at (length bytes) bytes)
  methods ← methods_read bytes
  joined (method_ranges h.entries) methods

abbrev pub told_cause : ClassCause → WalkCause
told_cause OutOfMemory = Want
told_cause Truncated = Bad
told_cause Magic = Bad
told_cause Version = Bad
told_cause Tag = Bad
told_cause Place = Bad
told_cause Extra = Bad
told_cause Descriptor = Bad
told_cause Name = Bad
told_cause Attribute = Bad

-- A fault of the reading as one of the walk.
abbrev pub told : ClassFault → WalkFault
told e = record { at = e.at; cause = told_cause e.cause }
