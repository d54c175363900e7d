-- How the definitions see the reader's own structures.
use Rattle.std.specs.Prelude.{◌≡◌, ◌≢◌, ℕ, List, map, Result, Ok, Err}
use Rattle.std.specs.declared.vec.Vec.{Vec}
use Rattle.class_pool.specs.declared.fault.ClassFault.{ClassFault}
use Rattle.class_pool.specs.Reading.{no_memory}
use Rattle.class_shape.specs.declared.unread.Unread.{Unread}
use Rattle.class_shape.specs.declared.tables.Lists.{Lists}
use Rattle.class_shape.specs.declared.tables.Body.{Body}
use Rattle.class_shape.specs.Reading.{AttributeSeen, ListsSeen, BodySeen}

abbrev pub lists_view : Lists → ListsSeen
lists_view l = record { interfaces = l.interfaces.items; fields = l.fields.items; methods = l.methods.items; attributes = l.attributes.items }

abbrev pub body_view : Body → BodySeen
body_view b = record { own = b.own; lists = lists_view b.lists }

abbrev pub attribute_lists : {Z : Type 0} → List (Vec AttributeSeen Z) → List (List AttributeSeen)
attribute_lists vs = map (λ v. v.items) vs

-- A part, seen by `view`, is what reading gives of the bytes that were left, and those left after it end at the same
-- place; or the fault is that of the reading, unless memory ran out.
abbrev pub Reads : {X Y : Type 0} → (X → Y) → Result (X × Unread) ClassFault → (ℕ → List ℕ → Result (Y × List ℕ) ClassFault) → Unread → Type 0
Reads view (Ok x) read left = (read left.end left.bytes.now ≡ Ok (view x.0, x.1.bytes.now)) × (x.1.end ≡ left.end)
Reads view (Err e) read left = e ≢ no_memory → read left.end left.bytes.now ≡ Err e
