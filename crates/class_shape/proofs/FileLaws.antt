-- The parts of a class file: what is read is spelled so, and what is spelled so is read.
use Rattle.std.proofs.Common.{◌≡◌, ℕ, zero, suc, ◌-◌, eqb, List, [], ◌∷◌, ◌++◌, length, Result, Ok, refl, sym, ap, subst, ◌∙◌, append_assoc, arith}
use Rattle.std.specs.Prelude.{⊤}
use Rattle.std.specs.List.{AllByRecursion}
use Rattle.std.proofs.lemmas.Bool.{eqb-true}
use Rattle.std.proofs.lemmas.List.{append-nil, nil_from_length}
use Rattle.byteorder.specs.Endian.{big_bytes}
use Rattle.class_pool.specs.declared.fault.ClassFault.{ClassFault}
use Rattle.class_pool.specs.Reading.{IsBytes}
use Rattle.class_pool.proofs.Codec.{Takes, Takes-then, ok_is, need_ok, step, number_2, number_4, block_codec, block_again}
use Rattle.class_shape.specs.declared.parts.IndexAt.{IndexAt}
use Rattle.class_shape.specs.declared.parts.MemberAt.{MemberAt}
use Rattle.class_shape.specs.declared.parts.OwnAt.{OwnAt}
use Rattle.class_shape.specs.declared.parts.RowAt.{RowAt}
use Rattle.class_shape.specs.Parts.{Attribute, attribute, IsAttribute, Member, member, IsMember, Own, own, IsOwn, Row, row, IsRow, Lists, lists, AreLists, Body, body, IsBody, IsShort, counted, Counted}
use Rattle.class_shape.specs.Shapes.{Pairwise}
use Rattle.class_shape.specs.Reading.{index_at, attribute_at, AttributeSeen, member_at, own_at, row_at, counted_at, ListsSeen, lists_at, BodySeen, body_at}
use Rattle.class_shape.proofs.SeenCodec.{Seen, SeenCodec, see, counted_codec}

abbrev pub Any : {B : Type 0} → B → Type 0
Any v = ⊤

IsBytes-prefix : (xs ys : List ℕ) → IsBytes (xs ++ ys) → IsBytes xs
IsBytes-prefix [] ys h i = omega arith
IsBytes-prefix (x ∷ xs) ys h zero = h zero
IsBytes-prefix (x ∷ xs) ys h (suc i) = IsBytes-prefix xs ys (λ j. h (suc j)) i

-- ---- what is the same, but for places
abbrev pub SameIndex : IndexAt → ℕ → Type 0
SameIndex v n = v.index ≡ n

pub record SameAttribute (v : AttributeSeen) (x : Attribute) : Type 0 where
  pub name : v.name.index ≡ x.name
  pub body : v.body ≡ x.body

abbrev pub GoodAttribute : AttributeSeen → Type 0
GoodAttribute v = IsBytes v.body

pub record SameMember (v : MemberAt) (x : Member) : Type 0 where
  pub flags : v.flags ≡ x.flags
  pub name : v.name.index ≡ x.name
  pub descriptor : v.descriptor.index ≡ x.descriptor

pub record SameOwn (v : OwnAt) (x : Own) : Type 0 where
  pub flags : v.flags ≡ x.flags
  pub this : v.this.index ≡ x.this
  pub parent : v.parent.index ≡ x.parent

pub record SameRow (v : RowAt) (x : Row) : Type 0 where
  pub inner : v.inner.index ≡ x.inner
  pub outer : v.outer.index ≡ x.outer
  pub name : v.name.index ≡ x.name
  pub flags : v.flags ≡ x.flags

pub record SameLists (v : ListsSeen) (x : Lists) : Type 0 where
  pub interfaces : Pairwise SameIndex v.interfaces x.interfaces
  pub fields : Pairwise SameMember v.fields x.fields
  pub methods : Pairwise SameMember v.methods x.methods
  pub attributes : Pairwise SameAttribute v.attributes x.attributes

abbrev pub GoodLists : ListsSeen → Type 0
GoodLists v = AllByRecursion GoodAttribute v.attributes

pub record SameBody (v : BodySeen) (x : Body) : Type 0 where
  pub own_same : SameOwn v.own x.own
  pub lists_same : SameLists v.lists x.lists

-- ---- an index
index_takes : (total : ℕ) (bytes : List ℕ) (v : IndexAt) (rest : List ℕ) → IsBytes bytes → index_at total bytes ≡ Ok (v, rest) → Seen (big_bytes 2) IsShort SameIndex Any bytes v rest
unfolding index_at
index_takes total bytes v rest fits e =
    let a = step (number_2 total) _ bytes (v, rest) fits e in
    subst (λ (p : IndexAt × List ℕ). Seen (big_bytes 2) IsShort SameIndex Any bytes p.0 p.1) (ok_is (record { at = total - length bytes; index = a.value }, a.rest) (v, rest) a.next)
    (record { part = a.value; takes = a.takes; fits = a.fits; same = refl; good = tt })

index_again : (total : ℕ) (n : ℕ) (rest : List ℕ) → IsShort n → (v : IndexAt) × (index_at total (big_bytes 2 n ++ rest) ≡ Ok (v, rest)) × SameIndex v n
unfolding index_at
index_again total n rest fits = (record { at = total - length (big_bytes 2 n ++ rest); index = n }, rw ((number_2 total).again n rest fits) refl, refl)

pub index_codec : (total : ℕ) → SeenCodec (big_bytes 2) IsShort SameIndex Any (index_at total)
index_codec total = record { takes = index_takes total; again = index_again total }

pub indices_codec : (total : ℕ) → SeenCodec (counted (big_bytes 2)) (Counted IsShort) (Pairwise SameIndex) (AllByRecursion Any) (counted_at total (index_at total))
indices_codec total = counted_codec (big_bytes 2) IsShort SameIndex Any (index_at total) (index_codec total) total

-- ---- an attribute
attribute_takes : (total : ℕ) (bytes : List ℕ) (v : AttributeSeen) (rest : List ℕ) → IsBytes bytes → attribute_at total bytes ≡ Ok (v, rest) → Seen attribute IsAttribute SameAttribute GoodAttribute bytes v rest
unfolding attribute_at
attribute_takes total bytes v rest fits e =
    let a = see (index_codec total) _ bytes (v, rest) fits e in
    let b = step (number_4 total) _ a.rest (v, rest) a.seen.takes.rest_fits a.next in
    let c = step (block_codec total b.value) _ b.rest (v, rest) b.takes.rest_fits b.next in
    let bc : Takes a.rest (big_bytes 4 (length c.value) ++ c.value) c.rest = subst (λ (k : ℕ). Takes a.rest (big_bytes 4 k ++ c.value) c.rest) (sym c.fits) (Takes-then a.rest _ b.rest _ c.rest b.takes c.takes) in
    let bytes_fit = IsBytes-prefix c.value c.rest (subst IsBytes c.takes.parts b.takes.rest_fits) in
    subst (λ (p : AttributeSeen × List ℕ). Seen attribute IsAttribute SameAttribute GoodAttribute bytes p.0 p.1) (ok_is (record { name = a.value; len_at = total - length a.rest; end = total - length c.rest; body = c.value }, c.rest) (v, rest) c.next)
    (record {
      part = record { name = a.seen.part; body = c.value };
      takes = Takes-then bytes _ a.rest _ c.rest a.seen.takes bc;
      fits = record { name = a.seen.fits; body = omega (arith, b.fits, c.fits) };
      same = record { name = a.seen.same; body = refl };
      good = bytes_fit;
    })

attribute_again : (total : ℕ) (x : Attribute) (rest : List ℕ) → IsAttribute x → (v : AttributeSeen) × (attribute_at total (attribute x ++ rest) ≡ Ok (v, rest)) × SameAttribute v x
unfolding attribute_at
attribute_again total x rest fits =
    let n = big_bytes 2 x.name in let l = big_bytes 4 (length x.body) in
    let regrouped : attribute x ++ rest ≡ n ++ (l ++ (x.body ++ rest)) = append_assoc n (l ++ x.body) rest ∙ ap (λ (t : List ℕ). n ++ t) (append_assoc l x.body rest) in
    let first = (index_codec total).again x.name (l ++ (x.body ++ rest)) fits.name in (
      record { name = first.0; len_at = total - length (l ++ (x.body ++ rest)); end = total - length rest; body = x.body },
      ap (attribute_at total) regrouped ∙ rw (first.1, (number_4 total).again (length x.body) (x.body ++ rest) fits.body, block_again total (length x.body) x.body rest refl) refl,
      record { name = first.2; body = refl },
    )

pub attribute_codec : (total : ℕ) → SeenCodec attribute IsAttribute SameAttribute GoodAttribute (attribute_at total)
attribute_codec total = record { takes = attribute_takes total; again = attribute_again total }

pub attributes_codec : (total : ℕ) → SeenCodec (counted attribute) (Counted IsAttribute) (Pairwise SameAttribute) (AllByRecursion GoodAttribute) (counted_at total (attribute_at total))
attributes_codec total = counted_codec attribute IsAttribute SameAttribute GoodAttribute (attribute_at total) (attribute_codec total) total

-- ---- a member
member_takes : (total : ℕ) (bytes : List ℕ) (v : MemberAt) (rest : List ℕ) → IsBytes bytes → member_at total bytes ≡ Ok (v, rest) → Seen member IsMember SameMember Any bytes v rest
unfolding member_at
member_takes total bytes v rest fits e =
    let a = step (number_2 total) _ bytes (v, rest) fits e in
    let b = see (index_codec total) _ a.rest (v, rest) a.takes.rest_fits a.next in
    let c = see (index_codec total) _ b.rest (v, rest) b.seen.takes.rest_fits b.next in
    let d = see (attributes_codec total) _ c.rest (v, rest) c.seen.takes.rest_fits c.next in
    let cd = Takes-then b.rest _ c.rest _ d.rest c.seen.takes d.seen.takes in
    let bd = Takes-then a.rest _ b.rest _ d.rest b.seen.takes cd in
    subst (λ (p : MemberAt × List ℕ). Seen member IsMember SameMember Any bytes p.0 p.1) (ok_is (record { flags = a.value; name = b.value; descriptor = c.value }, d.rest) (v, rest) d.next)
    (record {
      part = record { flags = a.value; name = b.seen.part; descriptor = c.seen.part; attributes = d.seen.part };
      takes = Takes-then bytes _ a.rest _ d.rest a.takes bd;
      fits = record { flags = a.fits; name = b.seen.fits; descriptor = c.seen.fits; attributes = d.seen.fits };
      same = record { flags = refl; name = b.seen.same; descriptor = c.seen.same };
      good = tt;
    })

member_again : (total : ℕ) (x : Member) (rest : List ℕ) → IsMember x → (v : MemberAt) × (member_at total (member x ++ rest) ≡ Ok (v, rest)) × SameMember v x
unfolding member_at
member_again total x rest fits =
    let f = big_bytes 2 x.flags in let n = big_bytes 2 x.name in let d = big_bytes 2 x.descriptor in let a = counted attribute x.attributes in
    let regrouped : member x ++ rest ≡ f ++ (n ++ (d ++ (a ++ rest))) = append_assoc f (n ++ (d ++ a)) rest ∙ ap (λ (t : List ℕ). f ++ t) (append_assoc n (d ++ a) rest ∙ ap (λ (t : List ℕ). n ++ t) (append_assoc d a rest)) in
    let b = (index_codec total).again x.name (d ++ (a ++ rest)) fits.name in
    let c = (index_codec total).again x.descriptor (a ++ rest) fits.descriptor in
    let g = (attributes_codec total).again x.attributes rest fits.attributes in (
      record { flags = x.flags; name = b.0; descriptor = c.0 },
      ap (member_at total) regrouped ∙ rw ((number_2 total).again x.flags (n ++ (d ++ (a ++ rest))) fits.flags, b.1, c.1, g.1) refl,
      record { flags = refl; name = b.2; descriptor = c.2 },
    )

pub member_codec : (total : ℕ) → SeenCodec member IsMember SameMember Any (member_at total)
member_codec total = record { takes = member_takes total; again = member_again total }

pub members_codec : (total : ℕ) → SeenCodec (counted member) (Counted IsMember) (Pairwise SameMember) (AllByRecursion Any) (counted_at total (member_at total))
members_codec total = counted_codec member IsMember SameMember Any (member_at total) (member_codec total) total

-- ---- the class's own part
own_takes : (total : ℕ) (bytes : List ℕ) (v : OwnAt) (rest : List ℕ) → IsBytes bytes → own_at total bytes ≡ Ok (v, rest) → Seen own IsOwn SameOwn Any bytes v rest
unfolding own_at
own_takes total bytes v rest fits e =
    let a = step (number_2 total) _ bytes (v, rest) fits e in
    let b = see (index_codec total) _ a.rest (v, rest) a.takes.rest_fits a.next in
    let c = see (index_codec total) _ b.rest (v, rest) b.seen.takes.rest_fits b.next in
    let bc = Takes-then a.rest _ b.rest _ c.rest b.seen.takes c.seen.takes in
    subst (λ (p : OwnAt × List ℕ). Seen own IsOwn SameOwn Any bytes p.0 p.1) (ok_is (record { flags = a.value; this = b.value; parent = c.value }, c.rest) (v, rest) c.next)
    (record {
      part = record { flags = a.value; this = b.seen.part; parent = c.seen.part };
      takes = Takes-then bytes _ a.rest _ c.rest a.takes bc;
      fits = record { flags = a.fits; this = b.seen.fits; parent = c.seen.fits };
      same = record { flags = refl; this = b.seen.same; parent = c.seen.same };
      good = tt;
    })

own_again : (total : ℕ) (x : Own) (rest : List ℕ) → IsOwn x → (v : OwnAt) × (own_at total (own x ++ rest) ≡ Ok (v, rest)) × SameOwn v x
unfolding own_at
own_again total x rest fits =
    let f = big_bytes 2 x.flags in let t = big_bytes 2 x.this in let p = big_bytes 2 x.parent in
    let regrouped : own x ++ rest ≡ f ++ (t ++ (p ++ rest)) = append_assoc f (t ++ p) rest ∙ ap (λ (z : List ℕ). f ++ z) (append_assoc t p rest) in
    let b = (index_codec total).again x.this (p ++ rest) fits.this in
    let c = (index_codec total).again x.parent rest fits.parent in (
      record { flags = x.flags; this = b.0; parent = c.0 },
      ap (own_at total) regrouped ∙ rw ((number_2 total).again x.flags (t ++ (p ++ rest)) fits.flags, b.1, c.1) refl,
      record { flags = refl; this = b.2; parent = c.2 },
    )

pub own_codec : (total : ℕ) → SeenCodec own IsOwn SameOwn Any (own_at total)
own_codec total = record { takes = own_takes total; again = own_again total }

-- ---- a row
row_takes : (total : ℕ) (bytes : List ℕ) (v : RowAt) (rest : List ℕ) → IsBytes bytes → row_at total bytes ≡ Ok (v, rest) → Seen row IsRow SameRow Any bytes v rest
unfolding row_at
row_takes total bytes v rest fits e =
    let a = see (index_codec total) _ bytes (v, rest) fits e in
    let b = see (index_codec total) _ a.rest (v, rest) a.seen.takes.rest_fits a.next in
    let c = see (index_codec total) _ b.rest (v, rest) b.seen.takes.rest_fits b.next in
    let d = step (number_2 total) _ c.rest (v, rest) c.seen.takes.rest_fits c.next in
    let cd = Takes-then b.rest _ c.rest _ d.rest c.seen.takes d.takes in
    let bd = Takes-then a.rest _ b.rest _ d.rest b.seen.takes cd in
    subst (λ (p : RowAt × List ℕ). Seen row IsRow SameRow Any bytes p.0 p.1) (ok_is (record { inner = a.value; outer = b.value; name = c.value; flags = d.value }, d.rest) (v, rest) d.next)
    (record {
      part = record { inner = a.seen.part; outer = b.seen.part; name = c.seen.part; flags = d.value };
      takes = Takes-then bytes _ a.rest _ d.rest a.seen.takes bd;
      fits = record { inner = a.seen.fits; outer = b.seen.fits; name = c.seen.fits; flags = d.fits };
      same = record { inner = a.seen.same; outer = b.seen.same; name = c.seen.same; flags = refl };
      good = tt;
    })

row_again : (total : ℕ) (x : Row) (rest : List ℕ) → IsRow x → (v : RowAt) × (row_at total (row x ++ rest) ≡ Ok (v, rest)) × SameRow v x
unfolding row_at
row_again total x rest fits =
    let i = big_bytes 2 x.inner in let o = big_bytes 2 x.outer in let n = big_bytes 2 x.name in let f = big_bytes 2 x.flags in
    let regrouped : row x ++ rest ≡ i ++ (o ++ (n ++ (f ++ rest))) = append_assoc i (o ++ (n ++ f)) rest ∙ ap (λ (t : List ℕ). i ++ t) (append_assoc o (n ++ f) rest ∙ ap (λ (t : List ℕ). o ++ t) (append_assoc n f rest)) in
    let a = (index_codec total).again x.inner (o ++ (n ++ (f ++ rest))) fits.inner in
    let b = (index_codec total).again x.outer (n ++ (f ++ rest)) fits.outer in
    let c = (index_codec total).again x.name (f ++ rest) fits.name in (
      record { inner = a.0; outer = b.0; name = c.0; flags = x.flags },
      ap (row_at total) regrouped ∙ rw (a.1, b.1, c.1, (number_2 total).again x.flags rest fits.flags) refl,
      record { inner = a.2; outer = b.2; name = c.2; flags = refl },
    )

pub row_codec : (total : ℕ) → SeenCodec row IsRow SameRow Any (row_at total)
row_codec total = record { takes = row_takes total; again = row_again total }

pub rows_codec : (total : ℕ) → SeenCodec (counted row) (Counted IsRow) (Pairwise SameRow) (AllByRecursion Any) (counted_at total (row_at total))
rows_codec total = counted_codec row IsRow SameRow Any (row_at total) (row_codec total) total

-- ---- the lists
lists_takes : (total : ℕ) (bytes : List ℕ) (v : ListsSeen) (rest : List ℕ) → IsBytes bytes → lists_at total bytes ≡ Ok (v, rest) → Seen lists AreLists SameLists GoodLists bytes v rest
unfolding lists_at
lists_takes total bytes v rest fits e =
    let d = see (indices_codec total) _ bytes (v, rest) fits e in
    let f = see (members_codec total) _ d.rest (v, rest) d.seen.takes.rest_fits d.next in
    let m = see (members_codec total) _ f.rest (v, rest) f.seen.takes.rest_fits f.next in
    let g = see (attributes_codec total) _ m.rest (v, rest) m.seen.takes.rest_fits m.next in
    let mg = Takes-then f.rest _ m.rest _ g.rest m.seen.takes g.seen.takes in
    let fg = Takes-then d.rest _ f.rest _ g.rest f.seen.takes mg in
    subst (λ (p : ListsSeen × List ℕ). Seen lists AreLists SameLists GoodLists bytes p.0 p.1) (ok_is (record { interfaces = d.value; fields = f.value; methods = m.value; attributes = g.value }, g.rest) (v, rest) g.next)
    (record {
      part = record { interfaces = d.seen.part; fields = f.seen.part; methods = m.seen.part; attributes = g.seen.part };
      takes = Takes-then bytes _ d.rest _ g.rest d.seen.takes fg;
      fits = record { interfaces = d.seen.fits; fields = f.seen.fits; methods = m.seen.fits; attributes = g.seen.fits };
      same = record { interfaces = d.seen.same; fields = f.seen.same; methods = m.seen.same; attributes = g.seen.same };
      good = g.seen.good;
    })

lists_again : (total : ℕ) (x : Lists) (rest : List ℕ) → AreLists x → (v : ListsSeen) × (lists_at total (lists x ++ rest) ≡ Ok (v, rest)) × SameLists v x
unfolding lists_at
lists_again total x rest fits =
    let i = counted (big_bytes 2) x.interfaces in let fs = counted member x.fields in let ms = counted member x.methods in let a = counted attribute x.attributes in
    let regrouped : lists x ++ rest ≡ i ++ (fs ++ (ms ++ (a ++ rest))) = append_assoc i (fs ++ (ms ++ a)) rest ∙ ap (λ (t : List ℕ). i ++ t) (append_assoc fs (ms ++ a) rest ∙ ap (λ (t : List ℕ). fs ++ t) (append_assoc ms a rest)) in
    let d = (indices_codec total).again x.interfaces (fs ++ (ms ++ (a ++ rest))) fits.interfaces in
    let f = (members_codec total).again x.fields (ms ++ (a ++ rest)) fits.fields in
    let m = (members_codec total).again x.methods (a ++ rest) fits.methods in
    let g = (attributes_codec total).again x.attributes rest fits.attributes in (
      record { interfaces = d.0; fields = f.0; methods = m.0; attributes = g.0 },
      ap (lists_at total) regrouped ∙ rw (d.1, f.1, m.1, g.1) refl,
      record { interfaces = d.2; fields = f.2; methods = m.2; attributes = g.2 },
    )

pub lists_codec : (total : ℕ) → SeenCodec lists AreLists SameLists GoodLists (lists_at total)
lists_codec total = record { takes = lists_takes total; again = lists_again total }

-- ---- the body, to the end of the file
pub record WholeBody (bytes : List ℕ) (v : BodySeen) : Type 0 where
  pub part : Body
  pub fits : IsBody part
  pub parts : bytes ≡ body part
  pub same : SameBody v part
  pub good : GoodLists v.lists

abbrev done : BodySeen → Result BodySeen ClassFault
done v = Ok v

pub body_takes : (total : ℕ) (bytes : List ℕ) (v : BodySeen) → IsBytes bytes → body_at total bytes ≡ Ok v → WholeBody bytes v
unfolding body_at
body_takes total bytes v fits e =
    let a = see (own_codec total) _ bytes v fits e in
    let b = see (lists_codec total) _ a.rest v a.seen.takes.rest_fits a.next in
    let n = need_ok (eqb (length b.rest) 0) _ _ v b.next in
    let nothing : b.rest ≡ [] = nil_from_length b.rest (eqb-true _ _ n.0) in
    let both = (Takes-then bytes _ a.rest _ b.rest a.seen.takes b.seen.takes).parts in
    let whole : bytes ≡ own a.seen.part ++ lists b.seen.part = both ∙ ap (λ (r : List ℕ). (own a.seen.part ++ lists b.seen.part) ++ r) nothing ∙ append-nil (own a.seen.part ++ lists b.seen.part) in
    subst (λ (p : BodySeen). WholeBody bytes p) (ok_is (record { own = a.value; lists = b.value }) v n.1)
    (record { part = record { own = a.seen.part; lists = b.seen.part }; fits = record { is_own = a.seen.fits; are_lists = b.seen.fits }; parts = whole; same = record { own_same = a.seen.same; lists_same = b.seen.same }; good = b.seen.good })

pub body_again : (total : ℕ) (x : Body) → IsBody x → (v : BodySeen) × (body_at total (body x) ≡ Ok v) × SameBody v x
unfolding body_at
body_again total x fits =
    let regrouped : body x ≡ own x.own ++ (lists x.lists ++ []) = ap (λ (t : List ℕ). own x.own ++ t) (sym (append-nil (lists x.lists))) in
    let a = (own_codec total).again x.own (lists x.lists ++ []) fits.is_own in
    let b = (lists_codec total).again x.lists [] fits.are_lists in
    (record { own = a.0; lists = b.0 }, ap (body_at total) regrouped ∙ rw (a.1, b.1) refl, record { own_same = a.2; lists_same = b.2 })
