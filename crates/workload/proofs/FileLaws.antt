-- The file that is written of a shape is a class file of the shape.
use Rattle.std.proofs.Common.{◌≡◌, ℕ, ◌+◌, ◌<◌, ◌≤◌, Bool, true, false, ◌||◌, List, [], ◌∷◌, ◌++◌, map, length, refl, sym, subst, ◌∙◌, Option, Some, None, arith, rules}
use Rattle.std.proofs.lemmas.List.{length-map, append-nil}
use Rattle.std.specs.Prelude.{IfSome, IsSome, IsSomeAnd}
use Rattle.std.specs.Set.{is_member}
use Rattle.std.specs.List.{flat_map, list_any, AllByRecursion}
use Rattle.class_pool.specs.Spelling.{Head, IsPoolOf}
use Rattle.class_pool.proofs.Codec.{ok_is}
use Rattle.class_pool.proofs.Heads.{read_only}
use Rattle.std.proofs.lemmas.Bool.{ltb-false, le-ltb}
use Rattle.class_pool.specs.Units.{IsText}
use Rattle.class_shape.specs.declared.shapes.ClassShape.{ClassShape}
use Rattle.class_shape.specs.declared.shapes.MemberShape.{MemberShape}
use Rattle.class_shape.specs.declared.shapes.InnerRow.{InnerRow}
use Rattle.class_shape.specs.declared.shapes.MemberKind.{MemberKind}
use Rattle.class_shape.specs.declared.shapes.MemberKind.TheVariants.{Field, Method}
use Rattle.class_shape.specs.Parts.{Attribute, row, counted, body, Counted, IsShort, IsAttribute, IsMember, IsRow, IsBody}
use Rattle.class_shape.specs.Shapes.{Pairwise, IsClassName, OrNone, IsTextAt, Decodes, IsDescriptor, IsMemberShape, IsInnerRow, inner_classes, SaysOfAttribute, SaysOfAttributes, Says, IsClassFile}
use Rattle.std.specs.Str.{chars}
use Rattle.workload.specs.Modified.{unit_bytes, modified}
use Rattle.workload.specs.Needs.{Needed, class, text, same, class_needs, text_needs, optional, member_needs, row_needs, inner_needs, needs, place}
use Rattle.workload.specs.Layout.{entries_in, class_place, text_place, place_or_none, member_in, row_in, attributes_in, head_in, body_in, pool_of, file_of}
use Rattle.workload.specs.Writing.{is_long, is_long_text, has_long_list, is_too_big, IsInternal, IsWholeMember, IsWholeRow, IsWhole}
use Rattle.workload.specs.Flags.{IsShortMember, IsShortRow, HasShortFlags}
use Rattle.workload.specs.Spelled.{IsSpelled, IsWritten}
use Rattle.workload.proofs.PoolLaws.{has_all, text_stands, name_stands, place_short, place_some, holds_of, head_fits}
use Rattle.workload.proofs.RowLaws.{body_length}

-- each of some needed entries is in the pool
abbrev pub Holds : List Needed → List Needed → Type 0
Holds pool ns = AllByRecursion (λ n. is_member same pool n ≡ true) ns

-- the pool is small, and its texts are spelled
pub record IsGood (pool : List Needed) : Type 0 where
  pub small : length pool < 65535
  pub spelled : AllByRecursion IsSpelled pool

split_all : (P : Needed → Type 0) (xs ys : List Needed) → AllByRecursion P (xs ++ ys) → AllByRecursion P xs × AllByRecursion P ys
split_all P [] ys h = (tt, h)
split_all P (x ∷ xs) ys h = let m = split_all P xs ys h.1 in ((h.0, m.0), m.1)

pub split : (pool xs ys : List Needed) → Holds pool (xs ++ ys) → Holds pool xs × Holds pool ys
split pool xs ys h = split_all (λ n. is_member same pool n ≡ true) xs ys h

pub spells : (pool : List Needed) (t : List ℕ) → IsGood pool → is_member same pool (text t) ≡ true → IsText (modified t) t
spells pool t good e = (holds_of IsSpelled (text t) pool e good.spelled).0

-- ---- names and texts
class_is : (pool : List Needed) (name : List ℕ) → IsGood pool → Holds pool (class_needs name) → IsInternal name → IsClassName (entries_in pool) (class_place pool name) name
class_is pool name good h internal = record { raw = modified name; stands = name_stands pool name good.small h.0 h.1.0; text = spells pool name good h.1.0; internal = internal }

class_or_none_is : (pool : List Needed) (o : Option (List ℕ)) → IsGood pool → Holds pool (optional class_needs o) → IfSome o IsInternal → OrNone (IsClassName (entries_in pool)) (place_or_none (class_place pool) o) o
class_or_none_is pool None good h internal = refl
class_or_none_is pool (Some name) good h internal = (place_some pool (class name) h.0, class_is pool name good h internal)

text_or_none_is : (pool : List Needed) (o : Option (List ℕ)) → IsGood pool → Holds pool (optional text_needs o) → OrNone (IsTextAt (entries_in pool)) (place_or_none (text_place pool) o) o
text_or_none_is pool None good h = refl
text_or_none_is pool (Some t) good h = (place_some pool (text t) h.0, record { raw = modified t; stands = text_stands pool t h.0; spells = spells pool t good h.0 })

decodes_is : (pool : List Needed) (o : Option (List ℕ)) → IsGood pool → Holds pool (optional text_needs o) → IsSome o → Decodes (entries_in pool) (place_or_none (text_place pool) o) o
decodes_is pool None good h e = absurd (search (rules, e))
decodes_is pool (Some t) good h e = record { raw = modified t; stands = text_stands pool t h.0; spells = spells pool t good h.0 }

or_none_short : (pool : List Needed) (f : List ℕ → Needed) (o : Option (List ℕ)) → IsGood pool → place_or_none (λ t. place pool (f t)) o < 65536
or_none_short pool f None good = omega arith
or_none_short pool f (Some t) good = place_short pool (f t) good.small

-- ---- interfaces
classes_are : (pool : List Needed) (names : List (List ℕ)) → IsGood pool → Holds pool (flat_map class_needs names) → AllByRecursion IsInternal names → Pairwise (IsClassName (entries_in pool)) (map (class_place pool) names) names
classes_are pool [] good h internal = tt
classes_are pool (n ∷ ns) good h internal = let p = split pool (class_needs n) (flat_map class_needs ns) h in (class_is pool n good p.0 internal.0, classes_are pool ns good p.1 internal.1)

classes_short : (pool : List Needed) (names : List (List ℕ)) → IsGood pool → AllByRecursion IsShort (map (class_place pool) names)
classes_short pool [] good = tt
classes_short pool (n ∷ ns) good = (place_short pool (class n) good.small, classes_short pool ns good)

-- ---- members
some_if : (o : Option (List ℕ)) (P : List ℕ → Type 0) → IsSomeAnd o P → IsSome o × IfSome o P
some_if None P h = absurd (search (rules, h))
some_if (Some t) P h = (search rules, h)

member_is : (pool : List Needed) (kind : MemberKind) (m : MemberShape) → IsGood pool → Holds pool (member_needs m) → IsWholeMember kind m → IsMemberShape (entries_in pool) kind (member_in pool m) m
member_is pool kind m good h whole =
    let p = split pool (optional text_needs m.name) (optional text_needs m.descriptor) h in
    let d = some_if m.descriptor (λ t. IsDescriptor kind t) whole.descriptor in
    record { flags = refl; name = decodes_is pool m.name good p.0 whole.name; descriptor = decodes_is pool m.descriptor good p.1 d.0; well_formed = d.1 }

members_are : (pool : List Needed) (kind : MemberKind) (ms : List MemberShape) → IsGood pool → Holds pool (flat_map member_needs ms) → AllByRecursion (IsWholeMember kind) ms → Pairwise (IsMemberShape (entries_in pool) kind) (map (member_in pool) ms) ms
members_are pool kind [] good h whole = tt
members_are pool kind (m ∷ ms) good h whole = let p = split pool (member_needs m) (flat_map member_needs ms) h in (member_is pool kind m good p.0 whole.0, members_are pool kind ms good p.1 whole.1)

members_short : (pool : List Needed) (ms : List MemberShape) → IsGood pool → AllByRecursion IsShortMember ms → AllByRecursion IsMember (map (member_in pool) ms)
members_short pool [] good short = tt
members_short pool (m ∷ ms) good short =
    (record { flags = short.0; name = or_none_short pool text m.name good; descriptor = or_none_short pool text m.descriptor good; attributes = (omega arith, tt) }, members_short pool ms good short.1)

-- ---- rows
row_is : (pool : List Needed) (r : InnerRow) → IsGood pool → Holds pool (row_needs r) → IsWholeRow r → IsInnerRow (entries_in pool) (row_in pool r) r
row_is pool r good h whole =
    let a = split pool (class_needs r.inner) (optional class_needs r.outer ++ optional text_needs r.name) h in
    let b = split pool (optional class_needs r.outer) (optional text_needs r.name) a.1 in
    record { inner = class_is pool r.inner good a.0 whole.inner; outer = class_or_none_is pool r.outer good b.0 whole.outer; name = text_or_none_is pool r.name good b.1; flags = refl }

rows_are : (pool : List Needed) (rs : List InnerRow) → IsGood pool → Holds pool (flat_map row_needs rs) → AllByRecursion IsWholeRow rs → Pairwise (IsInnerRow (entries_in pool)) (map (row_in pool) rs) rs
rows_are pool [] good h whole = tt
rows_are pool (r ∷ rs) good h whole = let p = split pool (row_needs r) (flat_map row_needs rs) h in (row_is pool r good p.0 whole.0, rows_are pool rs good p.1 whole.1)

rows_short : (pool : List Needed) (rs : List InnerRow) → IsGood pool → AllByRecursion IsShortRow rs → AllByRecursion IsRow (map (row_in pool) rs)
rows_short pool [] good short = tt
rows_short pool (r ∷ rs) good short =
    (record { inner = place_short pool (class r.inner) good.small; outer = or_none_short pool class r.outer good; name = or_none_short pool text r.name good; flags = short.0 }, rows_short pool rs good short.1)

-- the name is its own spelling
inner_spelled : modified inner_classes ≡ inner_classes
unfolding modified chars unit_bytes
inner_spelled = refl

attributes_say : (pool : List Needed) (rs : List InnerRow) → IsGood pool → length rs < 65536 → Holds pool (inner_needs rs) → AllByRecursion IsWholeRow rs → AllByRecursion IsShortRow rs → SaysOfAttributes (entries_in pool) (attributes_in pool rs) rs
attributes_say pool [] good few h whole short = refl
attributes_say pool (r ∷ rs) good few h whole short = (r ∷ rs, [], sym (append-nil (r ∷ rs)), said, refl)
  where
    count : length (map (row_in pool) (r ∷ rs)) < 65536
    count = subst (λ (k : ℕ). k < 65536) (sym (length-map (r ∷ rs) (row_in pool))) few

    said : SaysOfAttribute (entries_in pool) (record { name = text_place pool inner_classes; body = counted row (map (row_in pool) (r ∷ rs)) }) (r ∷ rs)
    said = record {
      raw = modified inner_classes;
      named = text_stands pool inner_classes h.0;
      rows = map (row_in pool) (r ∷ rs);
      is_rows = λ e. record { each = (count, rows_short pool (r ∷ rs) good short); parts = refl };
      said = λ e. rows_are pool (r ∷ rs) good h.1 whole;
      other = λ e. absurd (e inner_spelled);
    }

attributes_short : (pool : List Needed) (rs : List InnerRow) → IsGood pool → length rs < 65536 → AllByRecursion IsAttribute (attributes_in pool rs)
attributes_short pool [] good few = tt
attributes_short pool (r ∷ rs) good few = (record { name = place_short pool (text inner_classes) good.small; body = omega (arith, body_length pool (r ∷ rs), few) }, tt)

-- ---- the whole
pub record Fits (s : ClassShape) : Type 0 where
  pub interfaces : length s.interfaces < 65536
  pub fields : length s.fields < 65536
  pub methods : length s.methods < 65536
  pub inner : length s.inner < 65536

either : (a b : Bool) → (a || b) ≡ false → (a ≡ false) × (b ≡ false)
either true b e = absurd cc
either false b e = (refl, e)

not_long : (n : ℕ) → is_long n ≡ false → n < 65536
not_long n e = let le = ltb-false 65535 n e in omega (arith, le)

pub lists_fit : (s : ClassShape) → has_long_list s ≡ false → Fits s
lists_fit s e =
    let a = either _ _ e in
    let b = either _ _ a.1 in
    let c = either _ _ b.1 in
    record { interfaces = not_long _ a.0; fields = not_long _ b.0; methods = not_long _ c.0; inner = not_long _ c.1 }

counted_short : {A B : Type 0} (f : A → B) (P : B → Type 0) (xs : List A) → length xs < 65536 → AllByRecursion P (map f xs) → Counted P (map f xs)
counted_short f P xs few all = (subst (λ (k : ℕ). k < 65536) (sym (length-map xs f)) few, all)

body_fits : (pool : List Needed) (s : ClassShape) → IsGood pool → Fits s → IsWritten pool s → IsBody (body_in pool s)
body_fits pool s good few w = record {
  is_own = record { flags = w.flags; this = place_short pool (class s.name) good.small; parent = or_none_short pool class s.parent good };
  are_lists = record {
    interfaces = counted_short (class_place pool) IsShort s.interfaces few.interfaces (classes_short pool s.interfaces good);
    fields = counted_short (member_in pool) IsMember s.fields few.fields (members_short pool s.fields good w.short.fields);
    methods = counted_short (member_in pool) IsMember s.methods few.methods (members_short pool s.methods good w.short.methods);
    attributes = (one (attributes_in pool s.inner) s.inner refl, attributes_short pool s.inner good few.inner);
  };
}
  where
    one : (found : List Attribute) (rs : List InnerRow) → attributes_in pool rs ≡ found → length found < 65536
    one found [] e = subst (λ (xs : List Attribute). length xs < 65536) e (omega arith)
    one found (r ∷ rs) e = subst (λ (xs : List Attribute). length xs < 65536) e (omega arith)

shape_is : (pool : List Needed) (s : ClassShape) → IsGood pool → Fits s → HasShortFlags s → IsWhole s → Holds pool (needs s) → Says (head_in pool s) (body_in pool s) s
unfolding needs
shape_is pool s good few short whole h =
    let a = split pool (class_needs s.name) _ h in
    let b = split pool (optional class_needs s.parent) _ a.1 in
    let c = split pool (flat_map class_needs s.interfaces) _ b.1 in
    let d = split pool (flat_map member_needs s.fields) _ c.1 in
    let e = split pool (flat_map member_needs s.methods) (inner_needs s.inner) d.1 in
    record {
      minor = refl;
      major = refl;
      flags = refl;
      name = class_is pool s.name good a.0 whole.name;
      parent = class_or_none_is pool s.parent good b.0 whole.parent;
      interfaces = classes_are pool s.interfaces good c.0 whole.interfaces;
      fields = members_are pool Field s.fields good d.0 whole.fields;
      methods = members_are pool Method s.methods good e.0 whole.methods;
      inner = attributes_say pool s.inner good few.inner e.1 whole.inner short.inner;
    }

pub is_class_file : (s : ClassShape) → 45 ≤ s.major → IsWhole s → has_long_list s ≡ false → length (pool_of s) < 65535 → IsWritten (pool_of s) s → IsClassFile (file_of s) s
is_class_file s new whole lists small w =
    let good : IsGood (pool_of s) = record { small = small; spelled = w.spelled } in
    let few = lists_fit s lists in
    record {
      head = head_in (pool_of s) s;
      body = body_in (pool_of s) s;
      is_file = record { is_head = head_fits (pool_of s) s new small w; is_body = body_fits (pool_of s) s good few w; parts = refl };
      says = shape_is (pool_of s) s good few w.short whole (has_all (needs s));
    }

-- what a reader finds is the pool that was written
pub pool_is : (s : ClassShape) (h : Head) → 45 ≤ s.major → length (pool_of s) < 65535 → IsWritten (pool_of s) s → IsPoolOf (file_of s) h → h ≡ head_in (pool_of s) s
pool_is s h new small w p =
    let own : IsPoolOf (file_of s) (head_in (pool_of s) s) = record { rest = body (body_in (pool_of s) s); is = head_fits (pool_of s) s new small w; parts = refl } in
    ok_is h (head_in (pool_of s) s) (sym (read_only (file_of s) h p) ∙ read_only (file_of s) (head_in (pool_of s) s) own)

-- ---- what was written is not too big
short_test : (n : ℕ) → n < 65536 → is_long n ≡ false
short_test n lt = le-ltb 65535 n (omega (arith, lt))

none_long : (pool : List Needed) → AllByRecursion IsSpelled pool → list_any is_long_text pool ≡ false
none_long [] h = refl
none_long (class n ∷ ns) h = none_long ns h.1
none_long (text t ∷ ns) h = rw (short_test (length (modified t)) h.0.1, none_long ns h.1) refl

pub not_too_big : (s : ClassShape) → has_long_list s ≡ false → length (pool_of s) < 65535 → AllByRecursion IsSpelled (pool_of s) → is_too_big s ≡ false
not_too_big s lists small spelled = both (has_long_list s) _ lists (both (is_long (length (pool_of s) + 1)) _ (short_test (length (pool_of s) + 1) (omega arith)) (none_long (pool_of s) spelled))
  where
    both : (a b : Bool) → a ≡ false → b ≡ false → (a || b) ≡ false
    both true b e f = absurd cc
    both false b e f = f
