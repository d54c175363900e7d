-- Reading the parts after the pool from left to right, each index with its place in the file. A place is the length of
-- the file, less the bytes that are left.
use Rattle.std.specs.Prelude.{ℕ, zero, suc, ◌-◌, List, [], ◌∷◌, length, Result, Ok, ◌==◌}
use Rattle.class_pool.specs.declared.fault.ClassFault.{ClassFault}
use Rattle.class_pool.specs.declared.fault.ClassCause.TheVariants.{Extra}
use Rattle.class_pool.specs.Reading.{◌>>=◌, number_at, block_at, need, head_at}
use Rattle.class_shape.specs.declared.parts.IndexAt.{IndexAt}
use Rattle.class_shape.specs.declared.parts.MemberAt.{MemberAt}
use Rattle.class_shape.specs.declared.parts.OwnAt.{OwnAt}
use Rattle.class_shape.specs.declared.parts.RowAt.{RowAt}

-- So many parts, one after the other.
unfoldable pub many_at : {A : Type 0} → (List ℕ → Result (A × List ℕ) ClassFault) → ℕ → List ℕ → Result (List A × List ℕ) ClassFault
many_at read zero bytes = Ok ([], bytes)
many_at read (suc n) bytes = do
  x ← read bytes
  xs ← many_at read n x.1
  Ok (x.0 ∷ xs.0, xs.1)

-- A count of two bytes, and so many parts.
unfoldable pub counted_at : {A : Type 0} → ℕ → (List ℕ → Result (A × List ℕ) ClassFault) → List ℕ → Result (List A × List ℕ) ClassFault
counted_at total read bytes = do
  count ← number_at total 2 bytes
  many_at read count.0 count.1

-- An index with its place.
unfoldable pub index_at : ℕ → List ℕ → Result (IndexAt × List ℕ) ClassFault
index_at total bytes = do
  n ← number_at total 2 bytes
  Ok (record { at = total - length bytes; index = n.0 }, n.1)

-- An attribute: its name, the place of its length, its bytes, and the place where they end.
pub record AttributeSeen : Type 0 where
  pub name : IndexAt
  pub len_at : ℕ
  pub end : ℕ
  pub body : List ℕ

unfoldable pub attribute_at : ℕ → List ℕ → Result (AttributeSeen × List ℕ) ClassFault
attribute_at total bytes = do
  name ← index_at total bytes
  len ← number_at total 4 name.1
  body ← block_at total len.0 len.1
  Ok (record { name = name.0; len_at = total - length name.1; end = total - length body.1; body = body.0 }, body.1)

-- A field or method: its flags, its name and its descriptor. Its attributes are passed unread.
unfoldable pub member_at : ℕ → List ℕ → Result (MemberAt × List ℕ) ClassFault
member_at total bytes = do
  flags ← number_at total 2 bytes
  name ← index_at total flags.1
  descriptor ← index_at total name.1
  attributes ← counted_at total (attribute_at total) descriptor.1
  Ok (record { flags = flags.0; name = name.0; descriptor = descriptor.0 }, attributes.1)

unfoldable pub own_at : ℕ → List ℕ → Result (OwnAt × List ℕ) ClassFault
own_at total bytes = do
  flags ← number_at total 2 bytes
  this ← index_at total flags.1
  parent ← index_at total this.1
  Ok (record { flags = flags.0; this = this.0; parent = parent.0 }, parent.1)

-- A row of `InnerClasses`, where `total` is the place at which the attribute ends.
unfoldable pub row_at : ℕ → List ℕ → Result (RowAt × List ℕ) ClassFault
row_at total bytes = do
  inner ← index_at total bytes
  outer ← index_at total inner.1
  name ← index_at total outer.1
  flags ← number_at total 2 name.1
  Ok (record { inner = inner.0; outer = outer.0; name = name.0; flags = flags.0 }, flags.1)

-- The interfaces, the fields, the methods and the class attributes.
pub record ListsSeen : Type 0 where
  pub interfaces : List IndexAt
  pub fields : List MemberAt
  pub methods : List MemberAt
  pub attributes : List AttributeSeen

unfoldable pub lists_at : ℕ → List ℕ → Result (ListsSeen × List ℕ) ClassFault
lists_at total bytes = do
  interfaces ← counted_at total (index_at total) bytes
  fields ← counted_at total (member_at total) interfaces.1
  methods ← counted_at total (member_at total) fields.1
  attributes ← counted_at total (attribute_at total) methods.1
  Ok (record { interfaces = interfaces.0; fields = fields.0; methods = methods.0; attributes = attributes.0 }, attributes.1)

-- What stands after the pool.
pub record BodySeen : Type 0 where
  pub own : OwnAt
  pub lists : ListsSeen

-- The body, and then the end of the file.
unfoldable pub body_at : ℕ → List ℕ → Result BodySeen ClassFault
body_at total bytes = do
  o ← own_at total bytes
  l ← lists_at total o.1
  all ← need (length l.1 == 0) (record { at = total - length l.1; cause = Extra })
  Ok (record { own = o.0; lists = l.0 })

-- The bytes after a part.
abbrev pub rest_of : {X : Type 0} → X × List ℕ → List ℕ
rest_of x = x.1

-- The attributes of a method.
unfoldable pub method_at : ℕ → List ℕ → Result (List AttributeSeen × List ℕ) ClassFault
method_at total bytes = do
  flags ← number_at total 2 bytes
  name ← index_at total flags.1
  descriptor ← index_at total name.1
  counted_at total (attribute_at total) descriptor.1

-- What stands after the pool, up to the methods, and for each of these its attributes.
unfoldable pub methods_at : ℕ → List ℕ → Result (List (List AttributeSeen) × List ℕ) ClassFault
methods_at total bytes = do
  o ← own_at total bytes
  interfaces ← counted_at total (index_at total) o.1
  fields ← counted_at total (member_at total) interfaces.1
  counted_at total (method_at total) fields.1

-- For each method of the class file that the bytes begin with its attributes.
unfoldable pub methods_read : List ℕ → Result (List (List AttributeSeen)) ClassFault
methods_read bytes = do
  h ← head_at (length bytes) bytes
  methods ← methods_at (length bytes) h.1
  Ok methods.0
