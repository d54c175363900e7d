-- The attributes of the methods of a class file, each with its place (JVMS 4.6 and 4.7).
use Rattle.std.specs.Prelude.{ℕ, ◌+◌, List, [], ◌∷◌, ◌++◌, length}
use Rattle.byteorder.specs.Endian.{big_bytes}
use Rattle.class_pool.specs.Spelling.{Head, head}
use Rattle.class_shape.specs.declared.parts.IndexAt.{IndexAt}
use Rattle.class_shape.specs.Parts.{Attribute, attribute, Member, member, own, counted, Body}
use Rattle.class_shape.specs.Reading.{AttributeSeen}

-- Parts that stand end to end from a place on, each seen at its own place.
unfoldable pub placed : {A B : Type 0} → (A → List ℕ) → (ℕ → A → B) → ℕ → List A → List B
placed spell see at [] = []
placed spell see at (x ∷ xs) = see at x ∷ placed spell see (at + length (spell x)) xs

-- An attribute at a place: two bytes of name, four of length, and its own bytes.
abbrev pub attribute_seen : ℕ → Attribute → AttributeSeen
attribute_seen at a = record { name = record { at = at; index = a.name }; len_at = at + 2; end = at + 6 + length a.body; body = a.body }

-- The attributes of a member at a place, behind its flags, name, descriptor and their count.
abbrev pub attributes_seen : ℕ → Member → List AttributeSeen
attributes_seen at m = placed attribute attribute_seen (at + 8) m.attributes

-- The place of the first method.
abbrev pub methods_start : Head → Body → ℕ
methods_start h b = length (head h ++ (own b.own ++ (counted (big_bytes 2) b.lists.interfaces ++ (counted member b.lists.fields ++ big_bytes 2 (length b.lists.methods)))))

-- For each method its attributes.
abbrev pub method_attributes : Head → Body → List (List AttributeSeen)
method_attributes h b = placed member attributes_seen (methods_start h b) b.lists.methods
