-- What an index means: what is answered is what the definition says, and the other way round.
use Rattle.std.proofs.Common.{◌≡◌, ℕ, ◌+◌, Bool, true, false, cond, eqb, List, [], ◌∷◌, ◌++◌, Option, Some, None, Result, Ok, Err, refl, sym, ap, subst, ◌∙◌}
use Rattle.std.specs.Prelude.{MatchOption, IfSome}
use Rattle.std.specs.List.{AllByRecursion}
use Rattle.std.specs.Str.{bytes_eq}
use Rattle.std.proofs.lemmas.Bool.{eqb-true}
use Rattle.std.proofs.lemmas.List.{append-nil}
use Rattle.std.proofs.lemmas.Slice.Eq.{bytes_eq-Decides}
use Rattle.class_pool.specs.declared.fault.ClassFault.{ClassFault}
use Rattle.class_pool.specs.declared.fault.ClassCause.TheVariants.{Descriptor}
use Rattle.class_pool.specs.Spelling.{Entry}
use Rattle.class_pool.specs.Reading.{IsBytes, ◌>>=◌}
use Rattle.class_pool.specs.Index.{slot, start_in, class_index, text_at_index, text_in, name_in}
use Rattle.class_pool.specs.Units.{IsText, text_of}
use Rattle.class_pool.proofs.Codec.{bind_ok, ok_is}
use Rattle.class_pool.proofs.UnitLaws.{text_again, text_take}
use Rattle.type_names.specs.Names.{is_internal}
use Rattle.type_names.specs.Reading.{field_in, method_in}
use Rattle.type_names.specs.declared.kinds.Erased.{Erased}
use Rattle.type_names.specs.declared.kinds.MethodKind.{MethodKind}
use Rattle.type_names.proofs.FieldLaws.{found, only}
use Rattle.type_names.proofs.MethodLaws.{found_method, only_method}
use Rattle.class_shape.specs.declared.shapes.MemberShape.{MemberShape}
use Rattle.class_shape.specs.declared.shapes.InnerRow.{InnerRow}
use Rattle.class_shape.specs.declared.shapes.MemberKind.{MemberKind}
use Rattle.class_shape.specs.declared.shapes.MemberKind.TheVariants.{Field, Method}
use Rattle.class_shape.specs.declared.parts.MemberAt.{MemberAt}
use Rattle.class_shape.specs.declared.parts.RowAt.{RowAt}
use Rattle.class_shape.specs.Parts.{Attribute, Member, Row, row, counted, AreRows}
use Rattle.class_shape.specs.Shapes.{Pairwise, IsClassName, OrNone, IsTextAt, IsDescriptor, IsMemberShape, IsInnerRow, inner_classes, SaysOfAttribute, SaysOfAttributes}
use Rattle.class_shape.specs.Reading.{counted_at, row_at, AttributeSeen}
use Rattle.class_shape.specs.Meaning.{needed, text_use, class_use, internal, spelled, class_name, plain_name, given, or_none, is_given, is_descriptor, well_formed, member_shape, row_shape, each, joined, rows_to_end, rows_in, inner_rows, attribute_rows}
use Rattle.class_shape.proofs.FileLaws.{SameMember, SameRow, SameAttribute, GoodAttribute, rows_codec}

abbrev some : {A : Type 0} → A → Option A
some x = Some x

some_is : {A : Type 0} (x y : A) → some x ≡ some y → x ≡ y
some_is x y e = cc

none_some : {A : Type 0} (x : A) → None ≡ Some x → ⊥
none_some x e = cc

-- ---- texts and class names
needed_ok : {A : Type 0} (at : ℕ) (o : Option A) (x : A) → needed at o ≡ Ok x → o ≡ Some x
needed_ok at None x e = absurd cc
needed_ok at (Some y) x e = cc

needed_again : {A : Type 0} (at : ℕ) (o : Option A) (x : A) → o ≡ Some x → needed at o ≡ Ok x
needed_again at o x e = rw e refl

class_use_ok : (es : List Entry) (at n : ℕ) (raw : List ℕ) → class_use es at n ≡ Ok raw → name_in es n ≡ Some raw
unfolding class_use
class_use_ok es at n raw e =
    let a = bind_ok (needed at (class_index (slot es n))) _ raw e in
    let index = needed_ok at (class_index (slot es n)) a.0 a.1 in
    ap (text_at_index es) index ∙ needed_ok _ (text_in es a.0) raw a.2

class_use_again : (es : List Entry) (at n : ℕ) (raw : List ℕ) → name_in es n ≡ Some raw → class_use es at n ≡ Ok raw
unfolding class_use
class_use_again es at n raw e = go (class_index (slot es n)) refl e
  where
    go : (o : Option ℕ) → class_index (slot es n) ≡ o → text_at_index es o ≡ Some raw → (needed at (class_index (slot es n)) >>= λ name. text_use es (start_in es n + 1) name) ≡ Ok raw
    go None is t = absurd (none_some raw t)
    go (Some k) is t = rw (is, t) refl

internal_ok : (at : ℕ) (o : Option (List ℕ)) (name : List ℕ) → internal at o ≡ Ok name → (o ≡ Some name) × (is_internal true name ≡ true)
internal_ok at None name e = absurd cc
internal_ok at (Some text) name e = go (is_internal true text) refl e
  where
    ok_same : (x y : List ℕ) → (r : Result (List ℕ) ClassFault) → r ≡ Ok x → r ≡ Ok y → x ≡ y
    ok_same x y r p q = ok_is x y (sym p ∙ q)

    go : (b : Bool) → is_internal true text ≡ b → cond b (Ok text) (internal at None) ≡ Ok name → (some text ≡ Some name) × (is_internal true name ≡ true)
    go true is t = let same : text ≡ name = ok_same text name (Ok text) refl t in (ap (λ (x : List ℕ). some x) same, ap (is_internal true) (sym same) ∙ is)
    go false is t = absurd cc

pub class_name_ok : (es : List Entry) (at n : ℕ) (name : List ℕ) → class_name es at n ≡ Ok name → IsClassName es n name
unfolding class_name
class_name_ok es at n name e =
    let a = bind_ok (class_use es at n) _ name e in
    let i = internal_ok at (text_of a.0) name a.2 in
    record { raw = a.0; stands = class_use_ok es at n a.0 a.1; text = text_take a.0 name i.0; internal = i.1 }

pub class_name_again : (es : List Entry) (at n : ℕ) (name : List ℕ) → IsClassName es n name → class_name es at n ≡ Ok name
unfolding class_name
class_name_again es at n name c = rw (class_use_again es at n c.raw c.stands, text_again c.raw name c.text, c.internal) refl

spelled_ok : (at : ℕ) (o : Option (List ℕ)) (text : List ℕ) → spelled at o ≡ Ok text → o ≡ Some text
spelled_ok at None text e = absurd cc
spelled_ok at (Some t) text e = cc

plain_name_ok : (es : List Entry) (at n : ℕ) (text : List ℕ) → plain_name es at n ≡ Ok text → IsTextAt es n text
unfolding plain_name
plain_name_ok es at n text e =
    let a = bind_ok (text_use es at n) _ text e in
    record { raw = a.0; stands = needed_ok at (text_in es n) a.0 a.1; spells = text_take a.0 text (spelled_ok at (text_of a.0) text a.2) }

plain_name_again : (es : List Entry) (at n : ℕ) (text : List ℕ) → IsTextAt es n text → plain_name es at n ≡ Ok text
unfolding plain_name
plain_name_again es at n text t = rw (t.stands, text_again t.raw text t.spells) refl

decided : (b : Bool) → (b ≡ true → ⊥) → b ≡ false
decided true h = absurd (h refl)
decided false h = refl

abbrev done : {A : Type 0} → A → Result A ClassFault
done x = Ok x

pub or_none_ok : (name : ℕ → ℕ → Result (List ℕ) ClassFault) (Is : ℕ → List ℕ → Type 0) → ((at n : ℕ) (t : List ℕ) → name at n ≡ Ok t → Is n t) → (at n : ℕ) (o : Option (List ℕ)) → or_none name at n ≡ Ok o → OrNone Is n o
or_none_ok name Is tells at n o e = go (eqb n 0) refl e
  where
    true_false : true ≡ false → ⊥
    true_false e = cc

    read : (r : Result (List ℕ) ClassFault) → eqb n 0 ≡ false → name at n ≡ r → given r ≡ Ok o → OrNone Is n o
    read (Ok t) is r-is given_is = subst (OrNone Is n) (ok_is (Some t) o given_is) ((λ z. true_false (sym (ap (λ (k : ℕ). eqb k 0) z) ∙ is)), tells at n t r-is)
    read (Err d) is r-is given_is = absurd cc

    go : (b : Bool) → eqb n 0 ≡ b → cond b (done None) (given (name at n)) ≡ Ok o → OrNone Is n o
    go true is t = subst (OrNone Is n) (ok_is None o t) (eqb-true _ _ is)
    go false is t = read (name at n) is refl t

pub or_none_again : (name : ℕ → ℕ → Result (List ℕ) ClassFault) (Is : ℕ → List ℕ → Type 0) → ((at n : ℕ) (t : List ℕ) → Is n t → name at n ≡ Ok t) → (at n : ℕ) (o : Option (List ℕ)) → OrNone Is n o → or_none name at n ≡ Ok o
or_none_again name Is back at n None h = rw h refl
or_none_again name Is back at n (Some t) h =
    let other : eqb n 0 ≡ false = decided (eqb n 0) (λ z. h.0 (eqb-true _ _ z)) in
    rw (other, back at n t h.1) refl

-- ---- members
decodes_ok : (raw : List ℕ) (o : Option (List ℕ)) → text_of raw ≡ o → MatchOption o ((t : List ℕ) → IsText raw t → ⊥) (λ t. IsText raw t)
decodes_ok raw None e = λ t is. none_some t (sym e ∙ text_again raw t is)
decodes_ok raw (Some t) e = text_take raw t e

decodes_again : (raw : List ℕ) (o : Option (List ℕ)) → MatchOption o ((t : List ℕ) → IsText raw t → ⊥) (λ t. IsText raw t) → text_of raw ≡ o
decodes_again raw (Some t) h = text_again raw t h
decodes_again raw None h = go (text_of raw) refl
  where
    go : (o : Option (List ℕ)) → text_of raw ≡ o → text_of raw ≡ None
    go None is = is
    go (Some t) is = absurd (h t (text_take raw t is))

is_given_some : {A : Type 0} (o : Option A) → is_given o ≡ true → (x : A) × (o ≡ Some x)
is_given_some None e = absurd cc
is_given_some (Some x) e = (x, refl)

descriptor_ok : (kind : MemberKind) (text : List ℕ) → is_descriptor kind text ≡ true → IsDescriptor kind text
descriptor_ok Field text e = let x = is_given_some (field_in text) e in let f = found text x.0 x.1 in (x.0, f.0, f.1)
descriptor_ok Method text e = let x = is_given_some (method_in text) e in let f = found_method text x.0 x.1 in (x.0, f.0, f.1)

descriptor_again : (kind : MemberKind) (text : List ℕ) → IsDescriptor kind text → is_descriptor kind text ≡ true
descriptor_again Field text d = ap (λ (t : List ℕ). is_given (field_in t)) d.2 ∙ ap (λ (o : Option Erased). is_given o) (only d.0 d.1)
descriptor_again Method text d = ap (λ (t : List ℕ). is_given (method_in t)) d.2 ∙ ap (λ (o : Option MethodKind). is_given o) (only_method d.0 d.1)

well_formed_ok : (kind : MemberKind) (at : ℕ) (o p : Option (List ℕ)) → well_formed kind at o ≡ Ok p → (o ≡ p) × IfSome p (λ t. IsDescriptor kind t)
well_formed_ok kind at None p e = subst (λ (q : Option (List ℕ)). (None ≡ q) × IfSome q (λ t. IsDescriptor kind t)) (ok_is None p e) (refl, tt)
well_formed_ok kind at (Some text) p e = go (is_descriptor kind text) refl e
  where
    go : (b : Bool) → is_descriptor kind text ≡ b → cond b (done (some text)) (Err (record { at = at; cause = Descriptor })) ≡ Ok p → (some text ≡ p) × IfSome p (λ t. IsDescriptor kind t)
    go true is t = subst (λ (q : Option (List ℕ)). (some text ≡ q) × IfSome q (λ t. IsDescriptor kind t)) (ok_is (Some text) p t) (refl, descriptor_ok kind text is)
    go false is t = absurd cc

well_formed_again : (kind : MemberKind) (at : ℕ) (o : Option (List ℕ)) → IfSome o (λ t. IsDescriptor kind t) → well_formed kind at o ≡ Ok o
well_formed_again kind at None d = refl
well_formed_again kind at (Some text) d = rw (descriptor_again kind text d) refl

member_ok : (es : List Entry) (kind : MemberKind) (v : MemberAt) (m : Member) (s : MemberShape) → SameMember v m → member_shape es kind v ≡ Ok s → IsMemberShape es kind m s
unfolding member_shape
member_ok es kind v m s same e =
    let a = bind_ok (text_use es v.name.at v.name.index) _ s e in
    let b = bind_ok (text_use es v.descriptor.at v.descriptor.index) _ s a.2 in
    let c = bind_ok (well_formed kind v.descriptor.at (text_of b.0)) _ s b.2 in
    let w = well_formed_ok kind v.descriptor.at (text_of b.0) c.0 c.1 in
    let name_at : text_in es m.name ≡ Some a.0 = ap (text_in es) (sym same.name) ∙ needed_ok _ _ a.0 a.1 in
    let descriptor_at : text_in es m.descriptor ≡ Some b.0 = ap (text_in es) (sym same.descriptor) ∙ needed_ok _ _ b.0 b.1 in
    subst (λ (x : MemberShape). IsMemberShape es kind m x) (ok_is (record { flags = v.flags; name = text_of a.0; descriptor = c.0 }) s c.2)
    (record {
      flags = same.flags;
      name = record { raw = a.0; stands = name_at; spells = decodes_ok a.0 (text_of a.0) refl };
      descriptor = record { raw = b.0; stands = descriptor_at; spells = decodes_ok b.0 c.0 w.0 };
      well_formed = w.1;
    })

member_back : (es : List Entry) (kind : MemberKind) (v : MemberAt) (m : Member) (s : MemberShape) → SameMember v m → IsMemberShape es kind m s → member_shape es kind v ≡ Ok s
unfolding member_shape
member_back es kind v m s same d =
    let name_at : text_in es v.name.index ≡ Some d.name.raw = ap (text_in es) same.name ∙ d.name.stands in
    let descriptor_at : text_in es v.descriptor.index ≡ Some d.descriptor.raw = ap (text_in es) same.descriptor ∙ d.descriptor.stands in
    let flags : v.flags ≡ s.flags = same.flags ∙ sym d.flags in
    rw (name_at, descriptor_at, decodes_again d.descriptor.raw s.descriptor d.descriptor.spells, well_formed_again kind v.descriptor.at s.descriptor d.well_formed, decodes_again d.name.raw s.name d.name.spells, flags) refl

-- ---- rows
row_ok : (es : List Entry) (v : RowAt) (r : Row) (s : InnerRow) → SameRow v r → row_shape es v ≡ Ok s → IsInnerRow es r s
unfolding row_shape
row_ok es v r s same e =
    let a = bind_ok (class_name es v.inner.at v.inner.index) _ s e in
    let b = bind_ok (or_none (class_name es) v.outer.at v.outer.index) _ s a.2 in
    let c = bind_ok (or_none (plain_name es) v.name.at v.name.index) _ s b.2 in
    subst (λ (x : InnerRow). IsInnerRow es r x) (ok_is (record { inner = a.0; outer = b.0; name = c.0; flags = v.flags }) s c.2)
    (record {
      inner = subst (λ (n : ℕ). IsClassName es n a.0) same.inner (class_name_ok es v.inner.at v.inner.index a.0 a.1);
      outer = subst (λ (n : ℕ). OrNone (IsClassName es) n b.0) same.outer (or_none_ok (class_name es) (IsClassName es) (class_name_ok es) v.outer.at v.outer.index b.0 b.1);
      name = subst (λ (n : ℕ). OrNone (IsTextAt es) n c.0) same.name (or_none_ok (plain_name es) (IsTextAt es) (plain_name_ok es) v.name.at v.name.index c.0 c.1);
      flags = same.flags;
    })

row_back : (es : List Entry) (v : RowAt) (r : Row) (s : InnerRow) → SameRow v r → IsInnerRow es r s → row_shape es v ≡ Ok s
unfolding row_shape
row_back es v r s same d =
    let a = class_name_again es v.inner.at v.inner.index s.inner (subst (λ (n : ℕ). IsClassName es n s.inner) (sym same.inner) d.inner) in
    let b = or_none_again (class_name es) (IsClassName es) (class_name_again es) v.outer.at v.outer.index s.outer (subst (λ (n : ℕ). OrNone (IsClassName es) n s.outer) (sym same.outer) d.outer) in
    let c = or_none_again (plain_name es) (IsTextAt es) (plain_name_again es) v.name.at v.name.index s.name (subst (λ (n : ℕ). OrNone (IsTextAt es) n s.name) (sym same.name) d.name) in
    let flags : v.flags ≡ s.flags = same.flags ∙ sym d.flags in
    rw (a, b, c, flags) refl

-- ---- lists
module _ {V A B : Type 0} (f : V → Result B ClassFault) (Same : V → A → Type 0) (R : A → B → Type 0) where
  pub each_ok : ((v : V) (x : A) (y : B) → Same v x → f v ≡ Ok y → R x y) → (vs : List V) (xs : List A) (ys : List B) → Pairwise Same vs xs → each f vs ≡ Ok ys → Pairwise R xs ys
  unfolding each
  each_ok tells [] [] ys same e = subst (λ (t : List B). Pairwise R [] t) (ok_is [] ys e) tt
  each_ok tells [] (x ∷ xs) ys same e = absurd same
  each_ok tells (v ∷ vs) [] ys same e = absurd same
  each_ok tells (v ∷ vs) (x ∷ xs) ys same e =
      let a = bind_ok (f v) _ ys e in
      let b = bind_ok (each f vs) _ ys a.2 in
      subst (λ (t : List B). Pairwise R (x ∷ xs) t) (ok_is (a.0 ∷ b.0) ys b.2) (tells v x a.0 same.0 a.1, each_ok tells vs xs b.0 same.1 b.1)

  pub each_again : ((v : V) (x : A) (y : B) → Same v x → R x y → f v ≡ Ok y) → (vs : List V) (xs : List A) (ys : List B) → Pairwise Same vs xs → Pairwise R xs ys → each f vs ≡ Ok ys
  unfolding each
  each_again back [] [] [] same p = refl
  each_again back [] [] (y ∷ ys) same p = absurd p
  each_again back [] (x ∷ xs) ys same p = absurd same
  each_again back (v ∷ vs) [] ys same p = absurd same
  each_again back (v ∷ vs) (x ∷ xs) [] same p = absurd p
  each_again back (v ∷ vs) (x ∷ xs) (y ∷ ys) same p = rw (back v x y same.0 p.0, each_again back vs xs ys same.1 p.1) refl

pub members_ok : (es : List Entry) (kind : MemberKind) (vs : List MemberAt) (ms : List Member) (ss : List MemberShape) → Pairwise SameMember vs ms → each (member_shape es kind) vs ≡ Ok ss → Pairwise (IsMemberShape es kind) ms ss
members_ok es kind = each_ok (member_shape es kind) SameMember (IsMemberShape es kind) (member_ok es kind)

pub members_back : (es : List Entry) (kind : MemberKind) (vs : List MemberAt) (ms : List Member) (ss : List MemberShape) → Pairwise SameMember vs ms → Pairwise (IsMemberShape es kind) ms ss → each (member_shape es kind) vs ≡ Ok ss
members_back es kind = each_again (member_shape es kind) SameMember (IsMemberShape es kind) (member_back es kind)

-- ---- an attribute
to_end_ok : (at : ℕ) (r : Result (List RowAt × List ℕ) ClassFault) (vs : List RowAt) → rows_to_end at r ≡ Ok vs → r ≡ Ok (vs, [])
to_end_ok at (Err d) vs e = absurd cc
to_end_ok at (Ok (rows, [])) vs e = ap (λ (t : List RowAt). Ok (t, [])) (ok_is rows vs e)
to_end_ok at (Ok (rows, b ∷ more)) vs e = absurd cc

pub record RowsFound (body : List ℕ) (vs : List RowAt) : Type 0 where
  pub rows : List Row
  pub are : AreRows body rows
  pub same : Pairwise SameRow vs rows

rows_found : (a : AttributeSeen) (vs : List RowAt) → IsBytes a.body → rows_in a ≡ Ok vs → RowsFound a.body vs
rows_found a vs fits e =
    let t = (rows_codec a.end).takes a.body vs [] fits (to_end_ok a.len_at _ vs e) in
    record { rows = t.part; are = record { each = t.fits; parts = t.takes.parts ∙ append-nil (counted row t.part) }; same = t.same }

rows_again : (a : AttributeSeen) (rows : List Row) → AreRows a.body rows → (vs : List RowAt) × (rows_in a ≡ Ok vs) × Pairwise SameRow vs rows
rows_again a rows are =
    let t = (rows_codec a.end).again rows [] are.each in
    let whole : counted_at a.end (row_at a.end) a.body ≡ Ok (t.0, []) = ap (counted_at a.end (row_at a.end)) (are.parts ∙ sym (append-nil (counted row rows))) ∙ t.1 in
    (t.0, ap (rows_to_end a.len_at) whole, t.2)

abbrev said : List Entry → Bool → AttributeSeen → Result (List InnerRow) ClassFault
said es b a = cond b (inner_rows es a) (Ok [])

said_ok : (es : List Entry) (v : AttributeSeen) (x : Attribute) (raw : List ℕ) (b : Bool) (inner : List InnerRow) → bytes_eq raw inner_classes ≡ b → SameAttribute v x → GoodAttribute v → text_in es x.name ≡ Some raw → said es b v ≡ Ok inner → SaysOfAttribute es x inner
unfolding inner_rows
said_ok es v x raw true inner is same good at e =
    let named : raw ≡ inner_classes = (bytes_eq-Decides raw inner_classes).0 is in
    let a = bind_ok (rows_in v) _ inner e in
    let f = rows_found v a.0 good a.1 in
    let rows = each_ok (row_shape es) SameRow (IsInnerRow es) (row_ok es) a.0 f.rows inner f.same a.2 in
    record { raw = raw; named = at; rows = f.rows; is_rows = λ _. subst (λ (t : List ℕ). AreRows t f.rows) same.body f.are; said = λ _. rows; other = λ h. absurd (h named) }
said_ok es v x raw false inner is same good at e =
    let other : raw ≡ inner_classes → ⊥ = λ h. true_false (sym ((bytes_eq-Decides raw inner_classes).1 h) ∙ is) in
    record { raw = raw; named = at; rows = []; is_rows = λ h. absurd (other h); said = λ h. absurd (other h); other = λ _. sym (ok_is [] inner e) }
  where
    true_false : true ≡ false → ⊥
    true_false e = cc

attribute_ok : (es : List Entry) (v : AttributeSeen) (x : Attribute) (inner : List InnerRow) → SameAttribute v x → GoodAttribute v → attribute_rows es v ≡ Ok inner → SaysOfAttribute es x inner
unfolding attribute_rows
attribute_ok es v x inner same good e =
    let a = bind_ok (text_use es v.name.at v.name.index) _ inner e in
    let at : text_in es x.name ≡ Some a.0 = ap (text_in es) (sym same.name) ∙ needed_ok _ _ a.0 a.1 in
    said_ok es v x a.0 (bytes_eq a.0 inner_classes) inner refl same good at a.2

said_back : (es : List Entry) (v : AttributeSeen) (x : Attribute) (b : Bool) (inner : List InnerRow) (s : SaysOfAttribute es x inner) → bytes_eq s.raw inner_classes ≡ b → SameAttribute v x → said es b v ≡ Ok inner
unfolding inner_rows
said_back es v x true inner s is same =
    let named : s.raw ≡ inner_classes = (bytes_eq-Decides s.raw inner_classes).0 is in
    let r = rows_again v s.rows (subst (λ (t : List ℕ). AreRows t s.rows) (sym same.body) (s.is_rows named)) in
    rw r.1 (each_again (row_shape es) SameRow (IsInnerRow es) (row_back es) r.0 s.rows inner r.2 (s.said named))
said_back es v x false inner s is same =
    let nothing : inner ≡ [] = s.other (λ h. true_false (sym ((bytes_eq-Decides s.raw inner_classes).1 h) ∙ is)) in
    rw nothing refl
  where
    true_false : true ≡ false → ⊥
    true_false e = cc

attribute_back : (es : List Entry) (v : AttributeSeen) (x : Attribute) (inner : List InnerRow) → SameAttribute v x → SaysOfAttribute es x inner → attribute_rows es v ≡ Ok inner
unfolding attribute_rows
attribute_back es v x inner same s =
    let at : text_in es v.name.index ≡ Some s.raw = ap (text_in es) same.name ∙ s.named in
    rw at (said_back es v x (bytes_eq s.raw inner_classes) inner s refl same)

-- ---- all attributes
pub attributes_ok : (es : List Entry) (vs : List AttributeSeen) (xs : List Attribute) (inner : List InnerRow) → Pairwise SameAttribute vs xs → AllByRecursion GoodAttribute vs → joined (attribute_rows es) vs ≡ Ok inner → SaysOfAttributes es xs inner
unfolding joined
attributes_ok es [] [] inner same good e = sym (ok_is [] inner e)
attributes_ok es [] (x ∷ xs) inner same good e = absurd same
attributes_ok es (v ∷ vs) [] inner same good e = absurd same
attributes_ok es (v ∷ vs) (x ∷ xs) inner same good e =
    let a = bind_ok (attribute_rows es v) _ inner e in
    let b = bind_ok (joined (attribute_rows es) vs) _ inner a.2 in
    (a.0, b.0, sym (ok_is (a.0 ++ b.0) inner b.2), attribute_ok es v x a.0 same.0 good.0 a.1, attributes_ok es vs xs b.0 same.1 good.1 b.1)

pub attributes_back : (es : List Entry) (vs : List AttributeSeen) (xs : List Attribute) (inner : List InnerRow) → Pairwise SameAttribute vs xs → SaysOfAttributes es xs inner → joined (attribute_rows es) vs ≡ Ok inner
unfolding joined
attributes_back es [] [] inner same s = ap (λ (t : List InnerRow). Ok t) (sym s)
attributes_back es [] (x ∷ xs) inner same s = absurd same
attributes_back es (v ∷ vs) [] inner same s = absurd same
attributes_back es (v ∷ vs) (x ∷ xs) inner same s =
    rw (attribute_back es v x s.0 same.0 s.3, attributes_back es vs xs s.1 same.1 s.4) (ap (λ (t : List InnerRow). Ok t) (sym s.2))
