-- The one file that is written of a shape: its pool holds each needed entry once, where it is first needed, and
-- its parts name these places. No member has an attribute (JVMS 4.1 to 4.7).
use Rattle.std.specs.Prelude.{ℕ, ◌+◌, ◌*◌, List, [], ◌∷◌, ◌++◌, map, length, Option, Some, None}
use Rattle.std.specs.List.{flat_map}
use Rattle.byteorder.specs.Endian.{big_bytes}
use Rattle.class_pool.specs.Spelling.{Entry, utf8, fixed, Head, head}
use Rattle.class_shape.specs.declared.shapes.ClassShape.{ClassShape}
use Rattle.class_shape.specs.declared.shapes.MemberShape.{MemberShape}
use Rattle.class_shape.specs.declared.shapes.InnerRow.{InnerRow}
use Rattle.class_shape.specs.Parts.{Attribute, Member, Own, Lists, Body, body, Row, row, counted}
use Rattle.class_shape.specs.Shapes.{inner_classes}
use Rattle.workload.specs.Modified.{modified}
use Rattle.workload.specs.Needs.{Needed, class, text, needs, once, place}

-- A Class entry names the place of its name's text.
abbrev pub entry_in : List Needed → Needed → Entry
entry_in pool (class name) = fixed 7 (big_bytes 2 (place pool (text name)))
entry_in pool (text t) = utf8 (modified t)

abbrev pub entries_in : List Needed → List Entry
entries_in pool = map (entry_in pool) pool

abbrev pub class_place : List Needed → List ℕ → ℕ
class_place pool name = place pool (class name)

abbrev pub text_place : List Needed → List ℕ → ℕ
text_place pool t = place pool (text t)

-- 0 stands for none.
abbrev pub place_or_none : (List ℕ → ℕ) → Option (List ℕ) → ℕ
place_or_none f None = 0
place_or_none f (Some t) = f t

abbrev pub member_in : List Needed → MemberShape → Member
member_in pool m = record { flags = m.flags; name = place_or_none (text_place pool) m.name; descriptor = place_or_none (text_place pool) m.descriptor; attributes = [] }

abbrev pub row_in : List Needed → InnerRow → Row
row_in pool r = record { inner = class_place pool r.inner; outer = place_or_none (class_place pool) r.outer; name = place_or_none (text_place pool) r.name; flags = r.flags }

-- Where there are rows, one `InnerClasses` holds them; else there is no attribute.
abbrev pub attributes_in : List Needed → List InnerRow → List Attribute
attributes_in pool [] = []
attributes_in pool (r ∷ rs) = record { name = text_place pool inner_classes; body = counted row (map (row_in pool) (r ∷ rs)) } ∷ []

-- The bytes of an `InnerClasses` that holds the rows.
abbrev pub inner_bytes : List Needed → List InnerRow → List ℕ
inner_bytes pool rs = big_bytes 2 (text_place pool inner_classes) ++ (big_bytes 4 (2 + 8 * length rs) ++ (big_bytes 2 (length rs) ++ flat_map row (map (row_in pool) rs)))

abbrev pub own_in : List Needed → ClassShape → Own
own_in pool s = record { flags = s.flags; this = class_place pool s.name; parent = place_or_none (class_place pool) s.parent }

abbrev pub lists_in : List Needed → ClassShape → Lists
lists_in pool s = record {
  interfaces = map (class_place pool) s.interfaces;
  fields = map (member_in pool) s.fields;
  methods = map (member_in pool) s.methods;
  attributes = attributes_in pool s.inner;
}

abbrev pub body_in : List Needed → ClassShape → Body
body_in pool s = record { own = own_in pool s; lists = lists_in pool s }

abbrev pub head_in : List Needed → ClassShape → Head
head_in pool s = record { header = record { minor = s.minor; major = s.major; count = length pool + 1 }; entries = entries_in pool }

-- The entries that the pool of a shape's file holds, by their places from 1 on.
abbrev pub pool_of : ClassShape → List Needed
pool_of s = once (needs s)

abbrev pub file_of : ClassShape → List ℕ
file_of s = head (head_in (pool_of s) s) ++ body (body_in (pool_of s) s)
