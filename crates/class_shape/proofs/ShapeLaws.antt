-- The whole file: what is read is a class file of the shape, a class file is read, and no other shape fits.
use Rattle.std.proofs.Common.{◌≡◌, ◌≢◌, ℕ, ◌+◌, ◌≤◌, List, ◌++◌, length, drop, Some, None, Result, Ok, Err, refl, sym, ap, subst, ◌∙◌, arith}
use Rattle.std.specs.Prelude.{IfOk, IfErr, ◌↔◌}
use Rattle.std.proofs.lemmas.List.{length-append, drop_at}
use Rattle.class_pool.specs.declared.fault.ClassFault.{ClassFault}
use Rattle.class_pool.specs.declared.fault.ClassCause.TheVariants.{OutOfMemory}
use Rattle.class_pool.specs.Spelling.{Entry, Head, head, header_bytes, entries, IsPoolOf}
use Rattle.class_pool.specs.Reading.{IsBytes, ◌>>=◌, head_at, head_read, Gives}
use Rattle.class_pool.proofs.Codec.{bind_ok, ok_is, step}
use Rattle.class_pool.proofs.Heads.{head_codec}
use Rattle.class_shape.specs.declared.shapes.ClassShape.{ClassShape}
use Rattle.class_shape.specs.declared.shapes.MemberKind.TheVariants.{Field, Method}
use Rattle.class_shape.specs.Parts.{Body, body}
use Rattle.class_shape.specs.Shapes.{IsClassName, OrNone, Pairwise, IsMemberShape, SaysOfAttributes, Says, IsClassFile}
use Rattle.class_shape.specs.Reading.{BodySeen, ListsSeen, body_at}
use Rattle.class_shape.specs.Meaning.{class_name, or_none, own_names, OwnNames, list_shapes, ListShapes, shape_of, each, joined, index_name, member_shape, attribute_rows}
use Rattle.class_shape.specs.Violations.{shape_read, fault_in, first_violation}
use Rattle.class_shape.specs.declared.parts.IndexAt.{IndexAt}
use Rattle.class_shape.specs.declared.parts.OwnAt.{OwnAt}
use Rattle.class_shape.specs.Parts.{Own, Lists}
use Rattle.class_shape.proofs.FileLaws.{SameIndex, SameOwn, SameLists, SameBody, GoodLists, body_takes, body_again}
use Rattle.class_shape.proofs.MeaningLaws.{class_name_ok, class_name_again, or_none_ok, or_none_again, each_ok, each_again, members_ok, members_back, attributes_ok, attributes_back}

index_ok : (es : List Entry) (v : IndexAt) (n : ℕ) (name : List ℕ) → SameIndex v n → index_name es v ≡ Ok name → IsClassName es n name
index_ok es v n name same e = subst (λ (k : ℕ). IsClassName es k name) same (class_name_ok es v.at v.index name e)

index_back : (es : List Entry) (v : IndexAt) (n : ℕ) (name : List ℕ) → SameIndex v n → IsClassName es n name → index_name es v ≡ Ok name
index_back es v n name same c = class_name_again es v.at v.index name (subst (λ (k : ℕ). IsClassName es k name) (sym same) c)

-- ---- the class's own names
pub record OwnSays (es : List Entry) (o : Own) (s : OwnNames) : Type 0 where
  pub name : IsClassName es o.this s.name
  pub parent : OrNone (IsClassName es) o.parent s.parent

own_ok : (es : List Entry) (v : OwnAt) (o : Own) (s : OwnNames) → SameOwn v o → own_names es v ≡ Ok s → OwnSays es o s
unfolding own_names
own_ok es v o s same e =
    let a = bind_ok (class_name es v.this.at v.this.index) _ s e in
    let b = bind_ok (or_none (class_name es) v.parent.at v.parent.index) _ s a.2 in
    subst (OwnSays es o) (ok_is (record { name = a.0; parent = b.0 }) s b.2)
    (record {
      name = subst (λ (n : ℕ). IsClassName es n a.0) same.this (class_name_ok es v.this.at v.this.index a.0 a.1);
      parent = subst (λ (n : ℕ). OrNone (IsClassName es) n b.0) same.parent (or_none_ok (class_name es) (IsClassName es) (class_name_ok es) v.parent.at v.parent.index b.0 b.1);
    })

own_back : (es : List Entry) (v : OwnAt) (o : Own) (s : OwnNames) → SameOwn v o → OwnSays es o s → own_names es v ≡ Ok s
unfolding own_names
own_back es v o s same d =
    let a = class_name_again es v.this.at v.this.index s.name (subst (λ (n : ℕ). IsClassName es n s.name) (sym same.this) d.name) in
    let b = or_none_again (class_name es) (IsClassName es) (class_name_again es) v.parent.at v.parent.index s.parent (subst (λ (n : ℕ). OrNone (IsClassName es) n s.parent) (sym same.parent) d.parent) in
    rw (a, b) refl

-- ---- the lists
pub record ListsSay (es : List Entry) (l : Lists) (s : ListShapes) : Type 0 where
  pub interfaces : Pairwise (IsClassName es) l.interfaces s.interfaces
  pub fields : Pairwise (IsMemberShape es Field) l.fields s.fields
  pub methods : Pairwise (IsMemberShape es Method) l.methods s.methods
  pub inner : SaysOfAttributes es l.attributes s.inner

lists_ok : (es : List Entry) (v : ListsSeen) (l : Lists) (s : ListShapes) → SameLists v l → GoodLists v → list_shapes es v ≡ Ok s → ListsSay es l s
unfolding list_shapes
lists_ok es v l s same good e =
    let a = bind_ok (each (index_name es) v.interfaces) _ s e in
    let b = bind_ok (each (member_shape es Field) v.fields) _ s a.2 in
    let c = bind_ok (each (member_shape es Method) v.methods) _ s b.2 in
    let d = bind_ok (joined (attribute_rows es) v.attributes) _ s c.2 in
    subst (ListsSay es l) (ok_is (record { interfaces = a.0; fields = b.0; methods = c.0; inner = d.0 }) s d.2)
    (record {
      interfaces = each_ok (index_name es) SameIndex (IsClassName es) (index_ok es) v.interfaces l.interfaces a.0 same.interfaces a.1;
      fields = members_ok es Field v.fields l.fields b.0 same.fields b.1;
      methods = members_ok es Method v.methods l.methods c.0 same.methods c.1;
      inner = attributes_ok es v.attributes l.attributes d.0 same.attributes good d.1;
    })

lists_back : (es : List Entry) (v : ListsSeen) (l : Lists) (s : ListShapes) → SameLists v l → ListsSay es l s → list_shapes es v ≡ Ok s
unfolding list_shapes
lists_back es v l s same d =
    rw (
      each_again (index_name es) SameIndex (IsClassName es) (index_back es) v.interfaces l.interfaces s.interfaces same.interfaces d.interfaces,
      members_back es Field v.fields l.fields s.fields same.fields d.fields,
      members_back es Method v.methods l.methods s.methods same.methods d.methods,
      attributes_back es v.attributes l.attributes s.inner same.attributes d.inner,
    ) refl

-- ---- the shape
abbrev shape_with : Head → BodySeen → OwnNames → ListShapes → ClassShape
shape_with h b own l = record { minor = h.header.minor; major = h.header.major; flags = b.own.flags; name = own.name; parent = own.parent; interfaces = l.interfaces; fields = l.fields; methods = l.methods; inner = l.inner }

shape_ok : (h : Head) (v : BodySeen) (b : Body) (s : ClassShape) → SameBody v b → GoodLists v.lists → shape_of h v ≡ Ok s → Says h b s
unfolding shape_of
shape_ok h v b s same good e =
    let a = bind_ok (own_names h.entries v.own) _ s e in
    let l = bind_ok (list_shapes h.entries v.lists) _ s a.2 in
    let own = own_ok h.entries v.own b.own a.0 same.own_same a.1 in
    let lists = lists_ok h.entries v.lists b.lists l.0 same.lists_same good l.1 in
    subst (Says h b) (ok_is (shape_with h v a.0 l.0) s l.2)
    (record { minor = refl; major = refl; flags = same.own_same.flags; name = own.name; parent = own.parent; interfaces = lists.interfaces; fields = lists.fields; methods = lists.methods; inner = lists.inner })

shape_back : (h : Head) (v : BodySeen) (b : Body) (s : ClassShape) → SameBody v b → Says h b s → shape_of h v ≡ Ok s
unfolding shape_of
shape_back h v b s same d =
    let own : own_names h.entries v.own ≡ Ok (record { name = s.name; parent = s.parent }) = own_back h.entries v.own b.own (record { name = s.name; parent = s.parent }) same.own_same (record { name = d.name; parent = d.parent }) in
    let lists : list_shapes h.entries v.lists ≡ Ok (record { interfaces = s.interfaces; fields = s.fields; methods = s.methods; inner = s.inner }) = lists_back h.entries v.lists b.lists (record { interfaces = s.interfaces; fields = s.fields; methods = s.methods; inner = s.inner }) same.lists_same (record { interfaces = d.interfaces; fields = d.fields; methods = d.methods; inner = d.inner }) in
    let flags : v.own.flags ≡ s.flags = same.own_same.flags ∙ sym d.flags in
    rw (own, lists, ← d.minor, ← d.major, flags) refl

-- ---- the file
pub sound : (bytes : List ℕ) (s : ClassShape) → IsBytes bytes → shape_read bytes ≡ Ok s → IsClassFile bytes s
unfolding shape_read
sound bytes s fits e =
    let a = step (head_codec (length bytes)) _ bytes s fits e in
    let b = bind_ok (body_at (length bytes) a.rest) _ s a.next in
    let w = body_takes (length bytes) a.rest b.0 a.takes.rest_fits b.1 in
    let parts : bytes ≡ head a.value ++ body w.part = a.takes.parts ∙ ap (λ (t : List ℕ). head a.value ++ t) w.parts in
    record { head = a.value; body = w.part; is_file = record { is_head = a.fits; is_body = w.fits; parts = parts }; says = shape_ok a.value b.0 w.part s w.same w.good b.2 }

pub complete : (bytes : List ℕ) (s : ClassShape) → IsClassFile bytes s → shape_read bytes ≡ Ok s
unfolding shape_read
complete bytes s c =
    let first : head_at (length bytes) bytes ≡ Ok (c.head, body c.body) = ap (head_at (length bytes)) c.is_file.parts ∙ (head_codec (length bytes)).again c.head (body c.body) c.is_file.is_head in
    let second = body_again (length bytes) c.body c.is_file.is_body in
    rw (first, second.1) (shape_back c.head second.0 c.body s second.2 c.says)

abbrev done : ClassShape → Result ClassShape ClassFault
done s = Ok s

pub unique : (bytes : List ℕ) (s t : ClassShape) → IsClassFile bytes s → IsClassFile bytes t → s ≡ t
unique bytes s t a b = ok_is s t (sym (complete bytes s a) ∙ complete bytes t b)

pub exactly : (bytes : List ℕ) → IsBytes bytes → (first_violation bytes ≡ None) ↔ ((shape : ClassShape) × IsClassFile bytes shape)
exactly bytes fits = (λ none. go (shape_read bytes) refl none, λ some. ap fault_in (complete bytes some.0 some.1))
  where
    go : (r : Result ClassShape ClassFault) → shape_read bytes ≡ r → fault_in r ≡ None → (shape : ClassShape) × IsClassFile bytes shape
    go (Ok s) is none = (s, sound bytes s fits is)
    go (Err d) is none = absurd cc

pub is_found : (bytes : List ℕ) (r : Result ClassShape ClassFault) → IsBytes bytes → Gives (λ s. s) r (shape_read bytes) → IfOk r (λ s. IsClassFile bytes s)
is_found bytes (Ok s) fits given = sound bytes s fits given
is_found bytes (Err d) fits given = tt

pub is_only : (bytes : List ℕ) (r : Result ClassShape ClassFault) (s : ClassShape) → IsClassFile bytes s → Gives (λ x. x) r (shape_read bytes) → Gives (λ x. x) r (Ok s)
is_only bytes r s c given = subst (λ (x : Result ClassShape ClassFault). Gives (λ x. x) r x) (complete bytes s c) given

pub is_first : (bytes : List ℕ) (r : Result ClassShape ClassFault) → Gives (λ x. x) r (shape_read bytes) → IfErr r (λ fault. fault.cause ≢ OutOfMemory → first_violation bytes ≡ Some fault)
is_first bytes (Ok s) given = tt
is_first bytes (Err d) given = λ some. ap fault_in (given (λ e. some (ap (λ (f : ClassFault). f.cause) e)))

fault_is : (r : Result ClassShape ClassFault) (d : ClassFault) → fault_in r ≡ Some d → r ≡ Err d
fault_is (Ok s) d e = absurd cc
fault_is (Err b) d e = cc

pub is_refused : (bytes : List ℕ) (r : Result ClassShape ClassFault) (d : ClassFault) → first_violation bytes ≡ Some d → Gives (λ x. x) r (shape_read bytes) → Gives (λ x. x) r (Err d)
is_refused bytes r d e given = subst (λ (x : Result ClassShape ClassFault). Gives (λ x. x) r x) (fault_is (shape_read bytes) d e) given

-- ---- the bytes after the pool
pub end_within : (bytes : List ℕ) (h : Head) (end : ℕ) → IsPoolOf bytes h → end ≡ 10 + length (entries h.entries) → end ≤ length bytes
end_within bytes h end p is = omega (arith, is, ap length p.parts, length-append (head h) p.rest, length-append (header_bytes h.header) (entries h.entries))

pub pool_rest : (bytes : List ℕ) (h : Head) (end : ℕ) → IsPoolOf bytes h → end ≡ 10 + length (entries h.entries) → head_at (length bytes) bytes ≡ Ok (h, drop end bytes)
pool_rest bytes h end p is =
    let len : length (head h) ≡ end = omega (arith, is, length-append (header_bytes h.header) (entries h.entries)) in
    let rest : drop end bytes ≡ p.rest = ap (drop end) p.parts ∙ drop_at (head h) p.rest end len in
    ap (head_at (length bytes)) p.parts ∙ (head_codec (length bytes)).again h p.rest p.is ∙ ap (λ (t : List ℕ). Ok (h, t)) (sym rest)

pub pool_err : (bytes : List ℕ) (d : ClassFault) → head_read (head_at (length bytes) bytes) ≡ Err d → shape_read bytes ≡ Err d
unfolding shape_read
pool_err bytes d e = go (head_at (length bytes) bytes) refl e
  where
    go : (r : Result (Head × List ℕ) ClassFault) → head_at (length bytes) bytes ≡ r → head_read r ≡ Err d → (head_at (length bytes) bytes >>= λ h. (body_at (length bytes) h.1 >>= λ b. shape_of h.0 b)) ≡ Err d
    go (Ok x) is t = absurd cc
    go (Err b) is t = let same : b ≡ d = cc in rw (is, same) refl
