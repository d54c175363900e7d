-- The layout of a class file and its first violation: what is cut off, what goes on after its end, and what has no
-- other violation than those of the second pass.
use Rattle.std.proofs.Common.{◌≡◌, ℕ, ◌-◌, false, eqb, List, [], ◌∷◌, ◌++◌, length, Option, Some, Result, Ok, Err, refl, sym, ap, subst, ◌∙◌, append_assoc, arith, inl, inr}
use Rattle.std.specs.Prelude.{IfErr}
use Rattle.std.specs.List.{flat_map, AllByRecursion}
use Rattle.std.proofs.lemmas.Bool.{eqb-true}
use Rattle.std.proofs.lemmas.List.{length-append}
use Rattle.std.proofs.lemmas.List.Concat.{flat_map-cons}
use Rattle.byteorder.specs.Endian.{big_bytes}
use Rattle.class_pool.specs.declared.fault.ClassFault.{ClassFault}
use Rattle.class_pool.specs.declared.fault.ClassCause.{ClassCause}
use Rattle.class_pool.specs.declared.fault.ClassCause.TheVariants.{Truncated, Magic, Version, Tag, Place, Extra, Descriptor, Name, Attribute as AttributeCause, OutOfMemory}
use Rattle.class_pool.specs.Causes.{IsPoolCause}
use Rattle.class_pool.specs.Spelling.{Head, head}
use Rattle.class_pool.specs.Reading.{IsBytes, ◌>>=◌, cut, head_at}
use Rattle.class_pool.proofs.Codec.{number_2, number_4}
use Rattle.class_pool.proofs.Entries.{decided}
use Rattle.class_pool.proofs.Heads.{head_codec, head_takes}
use Rattle.class_pool.proofs.CauseLaws.{head_causes}
use Rattle.class_pool.proofs.PrefixLaws.{split, no_prefix, Cuts, cut_then, cuts_2, cuts_4, block_cuts, head_cuts}
use Rattle.class_shape.specs.declared.shapes.ClassShape.{ClassShape}
use Rattle.class_shape.specs.Parts.{attribute, IsAttribute, member, IsMember, own, IsOwn, lists, AreLists, Body, body, IsBody, IsFile, IsShort, counted, Counted}
use Rattle.class_shape.specs.Reading.{many_at, counted_at, index_at, attribute_at, member_at, own_at, lists_at, BodySeen, body_at}
use Rattle.class_shape.specs.Meaning.{shape_of}
use Rattle.class_shape.specs.Violations.{shape_read, fault_in, first_violation, IsLayoutCause, IsMeaningCause}
use Rattle.class_shape.specs.Layout.{PrefixesAreTruncated, LongerIsExtra, HasLayout, MeaningNeedsLayout}
use Rattle.class_shape.proofs.SeenCodec.{SeenCodec}
use Rattle.class_shape.proofs.FileLaws.{index_codec, indices_codec, attribute_codec, member_codec, members_codec, own_codec, lists_codec, body_takes, body_again}
use Rattle.class_shape.proofs.CauseLaws.{body_causes, shape_causes}

-- ---- prefixes
cut_see : {A B C : Type 0} {spell : A → List ℕ} {Fits : A → Type 0} {Same : B → A → Type 0} {Good : B → Type 0} {read : List ℕ → Result (B × List ℕ) ClassFault} (total : ℕ) (codec : SeenCodec spell Fits Same Good read) → Cuts spell Fits total read → (f : B × List ℕ → Result C ClassFault) (x : A) (ys start : List ℕ) (next : ℕ) (more : List ℕ) → Fits x → spell x ++ ys ≡ start ++ (next ∷ more) → ((v : B) (rest : List ℕ) → ys ≡ rest ++ (next ∷ more) → f (v, rest) ≡ Err (cut total)) → (read start >>= f) ≡ Err (cut total)
cut_see {spell = spell} {read = read} total codec cuts f x ys start next more fits e then =
    elim (split (spell x) ys start next more e) [
      | inl h ↦ rw (cuts x start next h.0 fits h.1) refl
      | inr h ↦ let a = codec.again x h.0 fits in let again : read start ≡ Ok (a.0, h.0) = ap read h.1 ∙ a.1 in rw again (then a.0 h.0 h.2)
    ]

module _ {A B : Type 0} (spell : A → List ℕ) (Fits : A → Type 0) (Same : B → A → Type 0) (Good : B → Type 0) (read : List ℕ → Result (B × List ℕ) ClassFault) (codec : SeenCodec spell Fits Same Good read) (total : ℕ) (cuts : Cuts spell Fits total read) where
  many_cuts : (xs : List A) (start : List ℕ) (next : ℕ) (more : List ℕ) → AllByRecursion Fits xs → flat_map spell xs ≡ start ++ (next ∷ more) → many_at read (length xs) start ≡ Err (cut total)
  unfolding many_at
  many_cuts [] start next more fits e = absurd (no_prefix start next more e)
  many_cuts (x ∷ xs) start next more fits e =
      cut_see total codec cuts _ x (flat_map spell xs) start next more fits.0 (sym (flat_map-cons spell x xs) ∙ e) (λ v rest is. rw (many_cuts xs rest next more fits.1 is) refl)

  counted_cuts : Cuts (counted spell) (Counted Fits) total (counted_at total read)
  unfolding counted_at
  counted_cuts xs start next more fits e =
      cut_then total (number_2 total) (cuts_2 total) _ (length xs) (flat_map spell xs) start next more fits.0 e (λ rest is. many_cuts xs rest next more fits.1 is)

index_cuts : (total : ℕ) → Cuts (big_bytes 2) IsShort total (index_at total)
unfolding index_at
index_cuts total n start next more fits e = rw (cuts_2 total n start next more fits e) refl

attribute_cuts : (total : ℕ) → Cuts attribute IsAttribute total (attribute_at total)
unfolding attribute_at
attribute_cuts total x start next more fits e =
    cut_see total (index_codec total) (index_cuts total) _ x.name (big_bytes 4 (length x.body) ++ x.body) start next more fits.name e (λ name rest is.
    cut_then total (number_4 total) (cuts_4 total) _ (length x.body) x.body rest next more fits.body is (λ rest2 is2.
    rw (block_cuts total (length x.body) x.body rest2 next more refl is2) refl))

attributes_cuts : (total : ℕ) → Cuts (counted attribute) (Counted IsAttribute) total (counted_at total (attribute_at total))
attributes_cuts total = counted_cuts attribute IsAttribute _ _ (attribute_at total) (attribute_codec total) total (attribute_cuts total)

member_cuts : (total : ℕ) → Cuts member IsMember total (member_at total)
unfolding member_at
member_cuts total x start next more fits e =
    let n = big_bytes 2 x.name in let d = big_bytes 2 x.descriptor in let a = counted attribute x.attributes in
    cut_then total (number_2 total) (cuts_2 total) _ x.flags (n ++ (d ++ a)) start next more fits.flags e (λ rest is.
    cut_see total (index_codec total) (index_cuts total) _ x.name (d ++ a) rest next more fits.name is (λ name rest2 is2.
    cut_see total (index_codec total) (index_cuts total) _ x.descriptor a rest2 next more fits.descriptor is2 (λ descriptor rest3 is3.
    rw (attributes_cuts total x.attributes rest3 next more fits.attributes is3) refl)))

own_cuts : (total : ℕ) → Cuts own IsOwn total (own_at total)
unfolding own_at
own_cuts total x start next more fits e =
    let t = big_bytes 2 x.this in let p = big_bytes 2 x.parent in
    cut_then total (number_2 total) (cuts_2 total) _ x.flags (t ++ p) start next more fits.flags e (λ rest is.
    cut_see total (index_codec total) (index_cuts total) _ x.this p rest next more fits.this is (λ this rest2 is2.
    rw (index_cuts total x.parent rest2 next more fits.parent is2) refl))

lists_cuts : (total : ℕ) → Cuts lists AreLists total (lists_at total)
unfolding lists_at
lists_cuts total x start next more fits e =
    let fs = counted member x.fields in let ms = counted member x.methods in let a = counted attribute x.attributes in
    let indices = counted_cuts (big_bytes 2) IsShort _ _ (index_at total) (index_codec total) total (index_cuts total) in
    let members = counted_cuts member IsMember _ _ (member_at total) (member_codec total) total (member_cuts total) in
    cut_see total (indices_codec total) indices _ x.interfaces (fs ++ (ms ++ a)) start next more fits.interfaces e (λ is_seen rest is.
    cut_see total (members_codec total) members _ x.fields (ms ++ a) rest next more fits.fields is (λ fields rest2 is2.
    cut_see total (members_codec total) members _ x.methods a rest2 next more fits.methods is2 (λ methods rest3 is3.
    rw (attributes_cuts total x.attributes rest3 next more fits.attributes is3) refl)))

body_cuts : (total : ℕ) (x : Body) (start : List ℕ) (next : ℕ) (more : List ℕ) → IsBody x → body x ≡ start ++ (next ∷ more) → body_at total start ≡ Err (cut total)
unfolding body_at
body_cuts total x start next more fits e =
    cut_see total (own_codec total) (own_cuts total) _ x.own (lists x.lists) start next more fits.is_own e (λ o rest is.
    rw (lists_cuts total x.lists rest next more fits.are_lists is) refl)

read_cuts : (bytes : List ℕ) (h : Head) (b : Body) (start : List ℕ) (next : ℕ) (more : List ℕ) → IsFile bytes h b → bytes ≡ start ++ (next ∷ more) → shape_read start ≡ Err (cut (length start))
unfolding shape_read
read_cuts bytes h b start next more is e =
    let total = length start in
    cut_then total (head_codec total) (head_cuts total) _ h (body b) start next more is.is_head (sym is.parts ∙ e) (λ rest at.
    rw (body_cuts total b rest next more is.is_body at) refl)

pub prefixes : PrefixesAreTruncated
prefixes bytes h b start next more is e = ap fault_in (read_cuts bytes h b start next more is e)

-- ---- bytes after the end
goes_on : (next : ℕ) (more : List ℕ) → eqb (length (next ∷ more)) 0 ≡ false
goes_on next more = decided (eqb (length (next ∷ more)) 0) (λ h. omega (arith, eqb-true (length (next ∷ more)) 0 h))

body_longer : (total : ℕ) (x : Body) (next : ℕ) (more : List ℕ) → IsBody x → body_at total (body x ++ (next ∷ more)) ≡ Err (record { at = total - length (next ∷ more); cause = Extra })
unfolding body_at
body_longer total x next more fits =
    let rest = next ∷ more in
    let a = (own_codec total).again x.own (lists x.lists ++ rest) fits.is_own in
    let b = (lists_codec total).again x.lists rest fits.are_lists in
    ap (body_at total) (append_assoc (own x.own) (lists x.lists) rest) ∙ rw (a.1, b.1, goes_on next more) refl

read_longer : (bytes : List ℕ) (h : Head) (b : Body) (next : ℕ) (more : List ℕ) → IsFile bytes h b → shape_read (bytes ++ (next ∷ more)) ≡ Err (record { at = length bytes; cause = Extra })
unfolding shape_read
read_longer bytes h b next more is =
    let rest = next ∷ more in
    let total = length (bytes ++ rest) in
    let parts : bytes ++ rest ≡ head h ++ (body b ++ rest) = ap (λ (t : List ℕ). t ++ rest) is.parts ∙ append_assoc (head h) (body b) rest in
    let first : head_at total (bytes ++ rest) ≡ Ok (h, body b ++ rest) = ap (head_at total) parts ∙ (head_codec total).again h (body b ++ rest) is.is_head in
    let at : total - length rest ≡ length bytes = omega (arith, length-append bytes rest) in
    rw (first, body_longer total b next more is.is_body, at) refl

pub longer : LongerIsExtra
longer bytes h b next more is = ap fault_in (read_longer bytes h b next more is)

-- ---- the second pass
pool_or_meaning : (cause : ClassCause) → IsPoolCause cause → IsMeaningCause cause → ⊥
pool_or_meaning Truncated p m = m
pool_or_meaning Magic p m = m
pool_or_meaning Version p m = m
pool_or_meaning Tag p m = m
pool_or_meaning Place p m = p
pool_or_meaning Extra p m = p
pool_or_meaning Descriptor p m = p
pool_or_meaning Name p m = p
pool_or_meaning AttributeCause p m = p
pool_or_meaning OutOfMemory p m = p

layout_or_meaning : (cause : ClassCause) → IsLayoutCause cause → IsMeaningCause cause → ⊥
layout_or_meaning Truncated p m = m
layout_or_meaning Magic p m = m
layout_or_meaning Version p m = m
layout_or_meaning Tag p m = m
layout_or_meaning Place p m = p
layout_or_meaning Extra p m = m
layout_or_meaning Descriptor p m = p
layout_or_meaning Name p m = p
layout_or_meaning AttributeCause p m = p
layout_or_meaning OutOfMemory p m = p

abbrev some : ClassFault → Option ClassFault
some d = Some d

same_fault : (d e : ClassFault) → some d ≡ some e → d ≡ e
same_fault d e is = cc

needs_layout : (bytes : List ℕ) (fault : ClassFault) → IsBytes bytes → first_violation bytes ≡ Some fault → IsMeaningCause fault.cause → HasLayout bytes
unfolding shape_read
needs_layout bytes fault fits violation meant = at_head (head_at total bytes) refl violation
  where
    total : ℕ
    total = length bytes

    at_body : (h : Head) (rest : List ℕ) → head_at total bytes ≡ Ok (h, rest) → (r : Result BodySeen ClassFault) → body_at total rest ≡ r → fault_in (r >>= λ b. shape_of h b) ≡ Some fault → HasLayout bytes
    at_body h rest first (Ok v) is e =
        let t = head_takes total bytes h rest fits first in
        let w = body_takes total rest v t.0.rest_fits is in
        (h, w.part, record { is_head = t.1; is_body = w.fits; parts = t.0.parts ∙ ap (λ (x : List ℕ). head h ++ x) w.parts })
    at_body h rest first (Err d) is e =
        let cause = subst (λ (x : Result BodySeen ClassFault). IfErr x (λ f. IsLayoutCause f.cause)) is (body_causes total rest) in
        absurd (layout_or_meaning d.cause cause (subst (λ (f : ClassFault). IsMeaningCause f.cause) (sym (same_fault d fault e)) meant))

    at_head : (r : Result (Head × List ℕ) ClassFault) → head_at total bytes ≡ r → fault_in (r >>= λ h. (body_at total h.1 >>= λ b. shape_of h.0 b)) ≡ Some fault → HasLayout bytes
    at_head (Ok x) is e = at_body x.0 x.1 is (body_at total x.1) refl e
    at_head (Err d) is e =
        let cause = subst (λ (x : Result (Head × List ℕ) ClassFault). IfErr x (λ f. IsPoolCause f.cause)) is (head_causes total bytes) in
        absurd (pool_or_meaning d.cause cause (subst (λ (f : ClassFault). IsMeaningCause f.cause) (sym (same_fault d fault e)) meant))

layout_means : (bytes : List ℕ) (fault : ClassFault) → first_violation bytes ≡ Some fault → HasLayout bytes → IsMeaningCause fault.cause
unfolding shape_read
layout_means bytes fault violation has =
    let h = has.0 in let b = has.1 in let is = has.2 in
    let total = length bytes in
    let first : head_at total bytes ≡ Ok (h, body b) = ap (head_at total) is.parts ∙ (head_codec total).again h (body b) is.is_head in
    let v = body_again total b is.is_body in
    let read : shape_read bytes ≡ shape_of h v.0 = rw (first, v.1) refl in
    go (shape_of h v.0) (shape_causes h v.0) (sym (ap fault_in read) ∙ violation)
  where
    go : (r : Result ClassShape ClassFault) → IfErr r (λ f. IsMeaningCause f.cause) → fault_in r ≡ Some fault → IsMeaningCause fault.cause
    go (Ok s) causes e = absurd cc
    go (Err d) causes e = subst (λ (f : ClassFault). IsMeaningCause f.cause) (same_fault d fault e) causes

pub meaning : MeaningNeedsLayout
meaning bytes fault fits violation = (needs_layout bytes fault fits violation, layout_means bytes fault violation)
