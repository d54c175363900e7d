-- The attributes of the methods of a file: what is spelled so is read so, each part at its place.
use Rattle.std.proofs.Common.{◌≡◌, ℕ, suc, ◌+◌, ◌-◌, ◌≤◌, List, [], ◌∷◌, ◌++◌, length, Result, Ok, refl, sym, ap, subst, ◌∙◌, append_assoc, arith}
use Rattle.std.specs.List.{flat_map, AllByRecursion}
use Rattle.std.proofs.lemmas.List.{length-append}
use Rattle.std.proofs.lemmas.List.Concat.{flat_map-cons}
use Rattle.byteorder.specs.Endian.{big_bytes}
use Rattle.class_pool.specs.declared.fault.ClassFault.{ClassFault}
use Rattle.class_pool.specs.Spelling.{Head, head}
use Rattle.class_pool.specs.Reading.{Gives, head_at}
use Rattle.class_pool.proofs.Codec.{number_2, number_4, block_again}
use Rattle.class_pool.proofs.Heads.{head_again}
use Rattle.class_shape.specs.Parts.{Attribute, attribute, IsAttribute, Member, member, IsMember, own, counted, Counted, Body, body, IsBody, IsFile, lists}
use Rattle.class_shape.specs.Reading.{AttributeSeen, index_at, attribute_at, member_at, own_at, many_at, counted_at, method_at, methods_at, methods_read}
use Rattle.class_shape.specs.Places.{placed, attribute_seen, attributes_seen, methods_start, method_attributes}
use Rattle.class_shape.proofs.FileLaws.{own_codec, index_codec, indices_codec, members_codec}

-- ---- parts end to end, each at its place
module _ {A B : Type 0} (spell : A → List ℕ) (Fits : A → Type 0) (see : ℕ → A → B) (total : ℕ) (read : List ℕ → Result (B × List ℕ) ClassFault) where
  abbrev pub IsReadAtPlace : Type 0
  IsReadAtPlace = (x : A) (rest : List ℕ) → Fits x → length (spell x ++ rest) ≤ total → read (spell x ++ rest) ≡ Ok (see (total - length (spell x ++ rest)) x, rest)

  later_place : (x text rest : List ℕ) → length (x ++ (text ++ rest)) ≤ total → total - length (x ++ (text ++ rest)) + length x ≡ total - length (text ++ rest)
  later_place x text rest le = omega (arith, length-append x (text ++ rest))

  shorter : (x text rest : List ℕ) → length (x ++ (text ++ rest)) ≤ total → length (text ++ rest) ≤ total
  shorter x text rest le = omega (arith, length-append x (text ++ rest))

  pub many_placed : IsReadAtPlace → (xs : List A) (rest : List ℕ) → AllByRecursion Fits xs → length (flat_map spell xs ++ rest) ≤ total → many_at read (length xs) (flat_map spell xs ++ rest) ≡ Ok (placed spell see (total - length (flat_map spell xs ++ rest)) xs, rest)
  unfolding many_at placed
  many_placed one [] rest fits le = refl
  many_placed one (x ∷ xs) rest fits le =
      let more = flat_map spell xs in
      let regrouped : flat_map spell (x ∷ xs) ++ rest ≡ spell x ++ (more ++ rest) = ap (λ (t : List ℕ). t ++ rest) (flat_map-cons spell x xs) ∙ append_assoc (spell x) more rest in
      let long : length (spell x ++ (more ++ rest)) ≤ total = subst (λ (t : List ℕ). length t ≤ total) regrouped le in
      let first = one x (more ++ rest) fits.0 long in
      let later = many_placed one xs rest fits.1 (shorter (spell x) more rest long) in
      let there = later_place (spell x) more rest long in
      subst (λ (t : List ℕ). many_at read (suc (length xs)) t ≡ Ok (see (total - length t) x ∷ placed spell see (total - length t + length (spell x)) xs, rest)) (sym regrouped)
      (rw (first, later, there) refl)

  pub counted_placed : IsReadAtPlace → (xs : List A) (rest : List ℕ) → Counted Fits xs → length (flat_map spell xs ++ rest) ≤ total → counted_at total read (counted spell xs ++ rest) ≡ Ok (placed spell see (total - length (flat_map spell xs ++ rest)) xs, rest)
  unfolding counted_at
  counted_placed one xs rest fits le =
      ap (counted_at total read) (append_assoc (big_bytes 2 (length xs)) (flat_map spell xs) rest) ∙ rw ((number_2 total).again (length xs) (flat_map spell xs ++ rest) fits.0) (many_placed one xs rest fits.1 le)

abbrev read_all : {C : Type 0} → C → List ℕ → Result (C × List ℕ) ClassFault
read_all xs rest = Ok (xs, rest)

-- ---- an attribute
attribute_length : (x : Attribute) (rest : List ℕ) → length (attribute x ++ rest) ≡ 6 + (length x.body + length rest)
attribute_length x rest = omega (arith, length-append x.body rest)

abbrev seen : ℕ → ℕ → ℕ → ℕ → List ℕ → AttributeSeen
seen at name len_at end body = record { name = record { at = at; index = name }; len_at = len_at; end = end; body = body }

abbrev read_as : AttributeSeen → List ℕ → Result (AttributeSeen × List ℕ) ClassFault
read_as a rest = Ok (a, rest)

same_seen : (a b c d e f name : ℕ) (body rest : List ℕ) → a ≡ d → b ≡ e → c ≡ f → read_as (seen a name b c body) rest ≡ read_as (seen d name e f body) rest
same_seen a b c d e f name body rest p q r = rw (p, q, r) refl

attribute_placed : (total : ℕ) (x : Attribute) (rest : List ℕ) → IsAttribute x → length (attribute x ++ rest) ≤ total → attribute_at total (attribute x ++ rest) ≡ Ok (attribute_seen (total - length (attribute x ++ rest)) x, rest)
unfolding attribute_at index_at
attribute_placed total x rest fits le =
    let n = big_bytes 2 x.name in let l = big_bytes 4 (length x.body) in
    let regrouped : attribute x ++ rest ≡ n ++ (l ++ (x.body ++ rest)) = append_assoc n (l ++ x.body) rest ∙ ap (λ (t : List ℕ). n ++ t) (append_assoc l x.body rest) in
    let all = attribute_length x rest in
    let body_length = length-append x.body rest in
    ap (attribute_at total) regrouped ∙ rw ((number_2 total).again x.name (l ++ (x.body ++ rest)) fits.name, (number_4 total).again (length x.body) (x.body ++ rest) fits.body, block_again total (length x.body) x.body rest refl)
    (same_seen _ _ _ _ _ _ x.name x.body rest (ap (λ (t : List ℕ). total - length t) (sym regrouped)) (omega (arith, all, le, body_length)) (omega (arith, all, le)))

-- ---- a method
attributes_placed : (total : ℕ) (xs : List Attribute) (rest : List ℕ) → Counted IsAttribute xs → length (flat_map attribute xs ++ rest) ≤ total → counted_at total (attribute_at total) (counted attribute xs ++ rest) ≡ Ok (placed attribute attribute_seen (total - length (flat_map attribute xs ++ rest)) xs, rest)
attributes_placed total = counted_placed attribute IsAttribute attribute_seen total (attribute_at total) (attribute_placed total)

member_length : (x : Member) (rest : List ℕ) → length (member x ++ rest) ≡ 8 + length (flat_map attribute x.attributes ++ rest)
member_length x rest = omega arith

method_placed : (total : ℕ) (x : Member) (rest : List ℕ) → IsMember x → length (member x ++ rest) ≤ total → method_at total (member x ++ rest) ≡ Ok (attributes_seen (total - length (member x ++ rest)) x, rest)
unfolding method_at index_at
method_placed total x rest fits le =
    let f = big_bytes 2 x.flags in let n = big_bytes 2 x.name in let d = big_bytes 2 x.descriptor in let a = counted attribute x.attributes in
    let regrouped : member x ++ rest ≡ f ++ (n ++ (d ++ (a ++ rest))) = append_assoc f (n ++ (d ++ a)) rest ∙ ap (λ (t : List ℕ). f ++ t) (append_assoc n (d ++ a) rest ∙ ap (λ (t : List ℕ). n ++ t) (append_assoc d a rest)) in
    let all = member_length x rest in
    let within : length (flat_map attribute x.attributes ++ rest) ≤ total = omega (arith, all, le) in
    let place : total - length (flat_map attribute x.attributes ++ rest) ≡ total - length (member x ++ rest) + 8 = omega (arith, all, le) in
    let there = attributes_placed total x.attributes rest fits.attributes within in
    ap (method_at total) regrouped ∙ rw ((number_2 total).again x.flags (n ++ (d ++ (a ++ rest))) fits.flags, (number_2 total).again x.name (d ++ (a ++ rest)) fits.name, (number_2 total).again x.descriptor (a ++ rest) fits.descriptor, there)
    (ap (λ (k : ℕ). read_all (placed attribute attribute_seen k x.attributes) rest) place)

methods_placed : (total : ℕ) (xs : List Member) (rest : List ℕ) → Counted IsMember xs → length (flat_map member xs ++ rest) ≤ total → counted_at total (method_at total) (counted member xs ++ rest) ≡ Ok (placed member attributes_seen (total - length (flat_map member xs ++ rest)) xs, rest)
methods_placed total = counted_placed member IsMember attributes_seen total (method_at total) (method_placed total)

-- ---- the file
body_placed : (total : ℕ) (x : Body) → IsBody x → length (flat_map member x.lists.methods ++ counted attribute x.lists.attributes) ≤ total → methods_at total (body x) ≡ Ok (placed member attributes_seen (total - length (flat_map member x.lists.methods ++ counted attribute x.lists.attributes)) x.lists.methods, counted attribute x.lists.attributes)
unfolding methods_at
body_placed total x fits le =
    let l = x.lists in
    let i = counted (big_bytes 2) l.interfaces in let fs = counted member l.fields in let ms = counted member l.methods in let as_bytes = counted attribute l.attributes in
    let a = (own_codec total).again x.own (i ++ (fs ++ (ms ++ as_bytes))) fits.is_own in
    let b = (indices_codec total).again l.interfaces (fs ++ (ms ++ as_bytes)) fits.are_lists.interfaces in
    let c = (members_codec total).again l.fields (ms ++ as_bytes) fits.are_lists.fields in
    let d = methods_placed total l.methods as_bytes fits.are_lists.methods le in
    rw (a.1, b.1, c.1, d) refl

five_lengths : (a b c d e f g : List ℕ) → length (a ++ (b ++ (c ++ (d ++ ((e ++ f) ++ g))))) ≡ length (a ++ (b ++ (c ++ (d ++ e)))) + length (f ++ g)
five_lengths a b c d e f g = simp length-append (omega arith)

pub file_placed : (bytes : List ℕ) (h : Head) (b : Body) → IsFile bytes h b → methods_read bytes ≡ Ok (method_attributes h b)
unfolding methods_read
file_placed bytes h b is =
    let l = b.lists in
    let after_methods = counted attribute l.attributes in
    let rest = flat_map member l.methods ++ after_methods in
    let all : length bytes ≡ methods_start h b + length rest = ap length is.parts ∙ five_lengths (head h) (own b.own) (counted (big_bytes 2) l.interfaces) (counted member l.fields) (big_bytes 2 (length l.methods)) (flat_map member l.methods) after_methods in
    let within : length rest ≤ length bytes = omega (arith, all) in
    let place : length bytes - length rest ≡ methods_start h b = omega (arith, all) in
    let read : head_at (length bytes) bytes ≡ Ok (h, body b) = ap (head_at (length bytes)) is.parts ∙ head_again (length bytes) h (body b) is.is_head in
    let methods : methods_at (length bytes) (body b) ≡ Ok (method_attributes h b, after_methods) = body_placed (length bytes) b is.is_body within ∙ ap (λ (k : ℕ). read_all (placed member attributes_seen k l.methods) after_methods) place in
    rw (read, methods) refl

pub is_found : {V : Type 0} (view : V → List (List AttributeSeen)) (bytes : List ℕ) (r : Result V ClassFault) (h : Head) (b : Body) → IsFile bytes h b → Gives view r (methods_read bytes) → Gives view r (Ok (method_attributes h b))
is_found view bytes r h b is given = subst (λ (x : Result (List (List AttributeSeen)) ClassFault). Gives view r x) (file_placed bytes h b is) given
