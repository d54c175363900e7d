-- What the used indices of a class file mean, in file order, with the first fault that is met: an index that isn't
-- a place of the pool with the needed tag, a text that can't be used, an `InnerClasses` of a wrong length.
use Rattle.std.specs.Prelude.{ℕ, ◌+◌, Bool, true, false, if◌then◌else◌, List, [], ◌∷◌, ◌++◌, Option, Some, None, Result, Ok, Err, ◌==◌}
use Rattle.std.specs.Str.{bytes_eq}
use Rattle.class_pool.specs.declared.fault.ClassFault.{ClassFault}
use Rattle.class_pool.specs.declared.fault.ClassCause.TheVariants.{Place, Name, Descriptor, Attribute}
use Rattle.class_pool.specs.Spelling.{Entry, Head}
use Rattle.class_pool.specs.Reading.{◌>>=◌}
use Rattle.class_pool.specs.Index.{slot, start_in, class_index, text_in}
use Rattle.class_pool.specs.Units.{text_of}
use Rattle.type_names.specs.Names.{is_internal}
use Rattle.type_names.specs.Reading.{field_in, method_in}
use Rattle.class_shape.specs.declared.shapes.ClassShape.{ClassShape}
use Rattle.class_shape.specs.declared.shapes.MemberShape.{MemberShape}
use Rattle.class_shape.specs.declared.shapes.InnerRow.{InnerRow}
use Rattle.class_shape.specs.declared.shapes.MemberKind.{MemberKind}
use Rattle.class_shape.specs.declared.shapes.MemberKind.TheVariants.{Field, Method}
use Rattle.class_shape.specs.declared.parts.IndexAt.{IndexAt}
use Rattle.class_shape.specs.declared.parts.MemberAt.{MemberAt}
use Rattle.class_shape.specs.declared.parts.OwnAt.{OwnAt}
use Rattle.class_shape.specs.declared.parts.RowAt.{RowAt}
use Rattle.class_shape.specs.Shapes.{inner_classes}
use Rattle.class_shape.specs.Reading.{counted_at, row_at, AttributeSeen, ListsSeen, BodySeen}

-- An index at a place that serves for no use.
abbrev pub needed : {A : Type 0} → ℕ → Option A → Result A ClassFault
needed at (Some x) = Ok x
needed at None = Err (record { at = at; cause = Place })

-- The bytes of the text at place n of the pool; n stands at `at`.
abbrev pub text_use : List Entry → ℕ → ℕ → Result (List ℕ) ClassFault
text_use es at n = needed at (text_in es n)

-- The bytes of the name of the class at place n. Where the entry names no text, the place is that of the index in it.
unfoldable pub class_use : List Entry → ℕ → ℕ → Result (List ℕ) ClassFault
class_use es at n = do
  name ← needed at (class_index (slot es n))
  text_use es (start_in es n + 1) name

abbrev pub spelled : ℕ → Option (List ℕ) → Result (List ℕ) ClassFault
spelled at (Some text) = Ok text
spelled at None = Err (record { at = at; cause = Name })

abbrev pub internal : ℕ → Option (List ℕ) → Result (List ℕ) ClassFault
internal at (Some text) = if is_internal true text then Ok text else Err (record { at = at; cause = Name })
internal at None = Err (record { at = at; cause = Name })

-- The name of the class at place n.
unfoldable pub class_name : List Entry → ℕ → ℕ → Result (List ℕ) ClassFault
class_name es at n = do
  raw ← class_use es at n
  internal at (text_of raw)

-- The text at place n, which must be one.
unfoldable pub plain_name : List Entry → ℕ → ℕ → Result (List ℕ) ClassFault
plain_name es at n = do
  raw ← text_use es at n
  spelled at (text_of raw)

abbrev pub given : Result (List ℕ) ClassFault → Result (Option (List ℕ)) ClassFault
given (Ok text) = Ok (Some text)
given (Err e) = Err e

-- 0 stands for none.
abbrev pub or_none : (ℕ → ℕ → Result (List ℕ) ClassFault) → ℕ → ℕ → Result (Option (List ℕ)) ClassFault
or_none name at n = if n == 0 then Ok None else given (name at n)

abbrev pub is_given : {A : Type 0} → Option A → Bool
is_given (Some x) = true
is_given None = false

-- Whether a text is a descriptor of a field, or of a method.
abbrev pub is_descriptor : MemberKind → List ℕ → Bool
is_descriptor Field text = is_given (field_in text)
is_descriptor Method text = is_given (method_in text)

abbrev pub well_formed : MemberKind → ℕ → Option (List ℕ) → Result (Option (List ℕ)) ClassFault
well_formed kind at None = Ok None
well_formed kind at (Some text) = if is_descriptor kind text then Ok (Some text) else Err (record { at = at; cause = Descriptor })

-- A member: its name before its descriptor. A text that can't be decoded is None.
unfoldable pub member_shape : List Entry → MemberKind → MemberAt → Result MemberShape ClassFault
member_shape es kind m = do
  name ← text_use es m.name.at m.name.index
  raw ← text_use es m.descriptor.at m.descriptor.index
  descriptor ← well_formed kind m.descriptor.at (text_of raw)
  Ok (record { flags = m.flags; name = text_of name; descriptor = descriptor })

unfoldable pub row_shape : List Entry → RowAt → Result InnerRow ClassFault
row_shape es r = do
  inner ← class_name es r.inner.at r.inner.index
  outer ← or_none (class_name es) r.outer.at r.outer.index
  name ← or_none (plain_name es) r.name.at r.name.index
  Ok (record { inner = inner; outer = outer; name = name; flags = r.flags })

-- Each in order.
unfoldable pub each : {A B : Type 0} → (A → Result B ClassFault) → List A → Result (List B) ClassFault
each f [] = Ok []
each f (x ∷ xs) = do
  y ← f x
  ys ← each f xs
  Ok (y ∷ ys)

-- The lists of each in order, joined.
unfoldable pub joined : {A B : Type 0} → (A → Result (List B) ClassFault) → List A → Result (List B) ClassFault
joined f [] = Ok []
joined f (x ∷ xs) = do
  ys ← f x
  more ← joined f xs
  Ok (ys ++ more)

abbrev pub rows_to_end : ℕ → Result (List RowAt × List ℕ) ClassFault → Result (List RowAt) ClassFault
rows_to_end at (Ok (rows, [])) = Ok rows
rows_to_end at (Ok (rows, b ∷ more)) = Err (record { at = at; cause = Attribute })
rows_to_end at (Err e) = Err (record { at = at; cause = Attribute })

-- The rows of an `InnerClasses`. Where its length isn't that of its count of rows, the place is that of the length.
abbrev pub rows_in : AttributeSeen → Result (List RowAt) ClassFault
rows_in a = rows_to_end a.len_at (counted_at a.end (row_at a.end) a.body)

unfoldable pub inner_rows : List Entry → AttributeSeen → Result (List InnerRow) ClassFault
inner_rows es a = do
  rows ← rows_in a
  each (row_shape es) rows

-- What one class attribute says; any attribute but `InnerClasses` says nothing.
unfoldable pub attribute_rows : List Entry → AttributeSeen → Result (List InnerRow) ClassFault
attribute_rows es a = do
  raw ← text_use es a.name.at a.name.index
  if bytes_eq raw inner_classes then inner_rows es a else Ok []

pub record OwnNames : Type 0 where
  pub name : List ℕ
  pub parent : Option (List ℕ)

-- This class, and then the super class, which may be none.
unfoldable pub own_names : List Entry → OwnAt → Result OwnNames ClassFault
own_names es o = do
  name ← class_name es o.this.at o.this.index
  parent ← or_none (class_name es) o.parent.at o.parent.index
  Ok (record { name = name; parent = parent })

pub record ListShapes : Type 0 where
  pub interfaces : List (List ℕ)
  pub fields : List MemberShape
  pub methods : List MemberShape
  pub inner : List InnerRow

abbrev pub index_name : List Entry → IndexAt → Result (List ℕ) ClassFault
index_name es i = class_name es i.at i.index

-- The interfaces, the fields, the methods, and then the class attributes.
unfoldable pub list_shapes : List Entry → ListsSeen → Result ListShapes ClassFault
list_shapes es l = do
  interfaces ← each (index_name es) l.interfaces
  fields ← each (member_shape es Field) l.fields
  methods ← each (member_shape es Method) l.methods
  inner ← joined (attribute_rows es) l.attributes
  Ok (record { interfaces = interfaces; fields = fields; methods = methods; inner = inner })

-- The shape of a header, its pool and a body.
unfoldable pub shape_of : Head → BodySeen → Result ClassShape ClassFault
shape_of h b = do
  own ← own_names h.entries b.own
  l ← list_shapes h.entries b.lists
  Ok (record { minor = h.header.minor; major = h.header.major; flags = b.own.flags; name = own.name; parent = own.parent; interfaces = l.interfaces; fields = l.fields; methods = l.methods; inner = l.inner })
