-- The bytes of the attributes of a file's methods are bytes.
use Rattle.std.proofs.Common.{ℕ, zero, suc, ◌+◌, Bool, true, false, cond, List, [], ◌∷◌, ◌++◌, length, sym, subst, arith}
use Rattle.std.specs.List.{filter, flat_map, AllByRecursion}
use Rattle.std.proofs.lemmas.List.Concat.{flat_map-cons}
use Rattle.byteorder.specs.Endian.{big_bytes}
use Rattle.class_pool.specs.Spelling.{Entry, Head, head}
use Rattle.class_pool.specs.Reading.{IsBytes}
use Rattle.class_shape.specs.Parts.{Attribute, attribute, Member, member, own, counted, Body, IsFile}
use Rattle.class_shape.specs.Reading.{AttributeSeen}
use Rattle.class_shape.specs.Places.{placed, attribute_seen, attributes_seen, method_attributes}
use Rattle.code_walk.specs.Code.{is_code, same_list, code_attributes}
use Rattle.code_walk.proofs.JoinLaws.{HasBytes}

IsBytes-first : (xs ys : List ℕ) → IsBytes (xs ++ ys) → IsBytes xs
IsBytes-first [] ys h i = omega arith
IsBytes-first (x ∷ xs) ys h zero = h zero
IsBytes-first (x ∷ xs) ys h (suc i) = IsBytes-first xs ys (λ j. h (suc j)) i

IsBytes-last : (xs ys : List ℕ) → IsBytes (xs ++ ys) → IsBytes ys
IsBytes-last [] ys h i = h i
IsBytes-last (x ∷ xs) ys h i = IsBytes-last xs ys (λ j. h (suc j)) i

AllBytes-append : (xs ys : List AttributeSeen) → AllByRecursion HasBytes xs → AllByRecursion HasBytes ys → AllByRecursion HasBytes (xs ++ ys)
AllBytes-append [] ys h g = g
AllBytes-append (x ∷ xs) ys h g = (h.0, AllBytes-append xs ys h.1 g)

attribute_bytes : (a : Attribute) (more : List ℕ) → IsBytes (attribute a ++ more) → IsBytes a.body
attribute_bytes a more h = IsBytes-last (big_bytes 4 (length a.body)) a.body (IsBytes-last (big_bytes 2 a.name) (big_bytes 4 (length a.body) ++ a.body) (IsBytes-first (attribute a) more h))

placed_bytes : (at : ℕ) (xs : List Attribute) → IsBytes (flat_map attribute xs) → AllByRecursion HasBytes (placed attribute attribute_seen at xs)
unfolding placed
placed_bytes at [] h = tt
placed_bytes at (x ∷ xs) h =
    let g : IsBytes (attribute x ++ flat_map attribute xs) = subst IsBytes (flat_map-cons attribute x xs) h in
    (attribute_bytes x (flat_map attribute xs) g, placed_bytes (at + length (attribute x)) xs (IsBytes-last (attribute x) (flat_map attribute xs) g))

member_bytes : (m : Member) → IsBytes (member m) → IsBytes (flat_map attribute m.attributes)
member_bytes m h =
    let a = counted attribute m.attributes in
    IsBytes-last (big_bytes 2 (length m.attributes)) (flat_map attribute m.attributes) (IsBytes-last (big_bytes 2 m.descriptor) a (IsBytes-last (big_bytes 2 m.name) (big_bytes 2 m.descriptor ++ a) (IsBytes-last (big_bytes 2 m.flags) (big_bytes 2 m.name ++ (big_bytes 2 m.descriptor ++ a)) h)))

methods_bytes : (at : ℕ) (ms : List Member) → IsBytes (flat_map member ms) → AllByRecursion HasBytes (flat_map same_list (placed member attributes_seen at ms))
unfolding placed
methods_bytes at [] h = tt
methods_bytes at (m ∷ ms) h =
    let g : IsBytes (member m ++ flat_map member ms) = subst IsBytes (flat_map-cons member m ms) h in
    let first = placed_bytes (at + 8) m.attributes (member_bytes m (IsBytes-first (member m) (flat_map member ms) g)) in
    let later = methods_bytes (at + length (member m)) ms (IsBytes-last (member m) (flat_map member ms) g) in
    subst (λ (l : List AttributeSeen). AllByRecursion HasBytes l) (sym (flat_map-cons same_list (attributes_seen at m) (placed member attributes_seen (at + length (member m)) ms)))
    (AllBytes-append (attributes_seen at m) _ first later)

kept_bytes : (es : List Entry) (list : List AttributeSeen) (b : Bool) (a : AttributeSeen) → HasBytes a → AllByRecursion HasBytes list → AllByRecursion HasBytes (cond b (a ∷ list) list)
kept_bytes es list true a h g = (h, g)
kept_bytes es list false a h g = g

filtered_bytes : (es : List Entry) (list : List AttributeSeen) → AllByRecursion HasBytes list → AllByRecursion HasBytes (filter (is_code es) list)
filtered_bytes es [] h = tt
filtered_bytes es (a ∷ list) h = kept_bytes es (filter (is_code es) list) (is_code es a) a h.0 (filtered_bytes es list h.1)

pub code_bytes_fit : (bytes : List ℕ) (h : Head) (b : Body) → IsBytes bytes → IsFile bytes h b → AllByRecursion HasBytes (code_attributes h b)
code_bytes_fit bytes h b fits is =
    let l = b.lists in
    let ms = counted member l.methods in let a = counted attribute l.attributes in
    let i = counted (big_bytes 2) l.interfaces in let fs = counted member l.fields in
    let after_head = IsBytes-last (head h) (own b.own ++ (i ++ (fs ++ (ms ++ a)))) (subst IsBytes is.parts fits) in
    let after_own = IsBytes-last (own b.own) (i ++ (fs ++ (ms ++ a))) after_head in
    let after_fields = IsBytes-last fs (ms ++ a) (IsBytes-last i (fs ++ (ms ++ a)) after_own) in
    let methods = IsBytes-last (big_bytes 2 (length l.methods)) (flat_map member l.methods) (IsBytes-first ms a after_fields) in
    filtered_bytes h.entries (flat_map same_list (method_attributes h b)) (methods_bytes _ l.methods methods)
