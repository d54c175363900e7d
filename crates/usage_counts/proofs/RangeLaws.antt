-- The code of a class file lies within its bytes.
use Rattle.std.proofs.Common.{◌≡◌, ℕ, ◌+◌, ◌-◌, ◌≤◌, Bool, true, false, cond, List, [], ◌∷◌, ◌++◌, length, sym, ap, ◌∙◌, subst, arith}
use Rattle.std.specs.List.{AllByRecursion, flat_map, filter}
use Rattle.std.proofs.lemmas.List.{length-append}
use Rattle.std.proofs.lemmas.List.Concat.{flat_map-cons}
use Rattle.byteorder.specs.Endian.{big_bytes}
use Rattle.class_pool.specs.Spelling.{Entry, Head, head}
use Rattle.class_shape.specs.Shapes.{Pairwise}
use Rattle.class_shape.specs.Parts.{Attribute, attribute, Member, member, own, counted, Body, IsFile}
use Rattle.class_shape.specs.Places.{placed, attribute_seen, attributes_seen, methods_start, method_attributes}
use Rattle.class_shape.specs.Reading.{AttributeSeen}
use Rattle.code_walk.specs.Code.{code_bytes, table_bytes, HasRange, AreCodes, is_code, same_list, code_attributes}
use Rattle.usage_counts.specs.Files.{LiesIn}
use Rattle.usage_counts.proofs.ListLaws.{all-then}

-- An attribute's bytes end where it ends, within so many bytes.
abbrev IsWithin : ℕ → AttributeSeen → Type 0
IsWithin bound a = (length a.body ≤ a.end) × (a.end ≤ bound)

one_within : (bound at : ℕ) (a : Attribute) → at + length (attribute a) ≤ bound → IsWithin bound (attribute_seen at a)
one_within bound at a h = (omega (arith, h), omega (arith, h))

placed_within : (bound at : ℕ) (xs : List Attribute) → at + length (flat_map attribute xs) ≤ bound → AllByRecursion (IsWithin bound) (placed attribute attribute_seen at xs)
unfolding placed
placed_within bound at [] h = tt
placed_within bound at (x ∷ xs) h =
    let e : length (flat_map attribute (x ∷ xs)) ≡ length (attribute x) + length (flat_map attribute xs) = ap length (flat_map-cons attribute x xs) ∙ length-append (attribute x) (flat_map attribute xs) in
    (one_within bound at x (omega (arith, e, h)), placed_within bound (at + length (attribute x)) xs (omega (arith, e, h)))

methods_within : (bound at : ℕ) (ms : List Member) → at + length (flat_map member ms) ≤ bound → AllByRecursion (IsWithin bound) (flat_map same_list (placed member attributes_seen at ms))
unfolding placed
methods_within bound at [] h = tt
methods_within bound at (m ∷ ms) h =
    let e : length (flat_map member (m ∷ ms)) ≡ length (member m) + length (flat_map member ms) = ap length (flat_map-cons member m ms) ∙ length-append (member m) (flat_map member ms) in
    let first = placed_within bound (at + 8) m.attributes (omega (arith, e, h)) in
    let later = methods_within bound (at + length (member m)) ms (omega (arith, e, h)) in
    subst (λ (l : List AttributeSeen). AllByRecursion (IsWithin bound) l) (sym (flat_map-cons same_list (attributes_seen at m) (placed member attributes_seen (at + length (member m)) ms)))
    (all-then (IsWithin bound) (attributes_seen at m) _ first later)

kept_within : (bound : ℕ) (list : List AttributeSeen) (b : Bool) (a : AttributeSeen) → IsWithin bound a → AllByRecursion (IsWithin bound) list → AllByRecursion (IsWithin bound) (cond b (a ∷ list) list)
kept_within bound list true a h g = (h, g)
kept_within bound list false a h g = g

filtered_within : (bound : ℕ) (es : List Entry) (list : List AttributeSeen) → AllByRecursion (IsWithin bound) list → AllByRecursion (IsWithin bound) (filter (is_code es) list)
filtered_within bound es [] h = tt
filtered_within bound es (a ∷ list) h = kept_within bound (filter (is_code es) list) (is_code es a) a h.0 (filtered_within bound es list h.1)

start_fits : (h o i f n ms more : List ℕ) → length (h ++ (o ++ (i ++ (f ++ n)))) + length ms ≤ length (h ++ (o ++ (i ++ (f ++ ((n ++ ms) ++ more)))))
start_fits h o i f n ms more = simp length-append (omega arith)

file_within : (bytes : List ℕ) (h : Head) (b : Body) → IsFile bytes h b → AllByRecursion (IsWithin (length bytes)) (code_attributes h b)
file_within bytes h b f =
    let fits = start_fits (head h) (own b.own) (counted (big_bytes 2) b.lists.interfaces) (counted member b.lists.fields) (big_bytes 2 (length b.lists.methods)) (flat_map member b.lists.methods) (counted attribute b.lists.attributes) in
    let le : methods_start h b + length (flat_map member b.lists.methods) ≤ length bytes = subst (λ (n : ℕ). methods_start h b + length (flat_map member b.lists.methods) ≤ n) (ap length (sym f.parts)) fits in
    filtered_within (length bytes) h.entries (flat_map same_list (method_attributes h b)) (methods_within (length bytes) (methods_start h b) b.lists.methods le)

range_within : (bound : ℕ) (a : AttributeSeen) (range : ℕ × ℕ) → IsWithin bound a → HasRange a range → LiesIn bound range
range_within bound a range w r =
    let c = r.holds in
    let e : length a.body ≡ 8 + (length c.code + length (table_bytes c.handler_count c.handlers c.attributes)) = ap length r.parts ∙ (let k : length (code_bytes c) ≡ 8 + length (c.code ++ table_bytes c.handler_count c.handlers c.attributes) = omega arith in k) ∙ ap (λ n. 8 + n) (length-append c.code (table_bytes c.handler_count c.handlers c.attributes)) in
    subst (LiesIn bound) (sym r.range_is) (let P : a.end - length a.body + 8 ≤ a.end - length a.body + 8 + length c.code = omega arith in P, let Q : a.end - length a.body + 8 + length c.code ≤ bound = omega (arith, e, w.0, w.1) in Q)

each_within : (bound : ℕ) (list : List AttributeSeen) (ranges : List (ℕ × ℕ)) → AllByRecursion (IsWithin bound) list → Pairwise HasRange list ranges → AllByRecursion (LiesIn bound) ranges
each_within bound [] [] w p = tt
each_within bound [] (r ∷ rs) w p = absurd p
each_within bound (a ∷ list) [] w p = absurd p
each_within bound (a ∷ list) (r ∷ rs) w p = (range_within bound a r w.0 p.0, each_within bound list rs w.1 p.1)

pub codes-within : (bytes : List ℕ) (ranges : List (ℕ × ℕ)) → AreCodes bytes ranges → AllByRecursion (LiesIn (length bytes)) ranges
codes-within bytes ranges c = each_within (length bytes) (code_attributes c.head c.body) ranges (file_within bytes c.head c.body c.is_file) c.each
