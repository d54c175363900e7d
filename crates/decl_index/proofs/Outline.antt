-- Tables of names stay where each class keeps its name and its nesting.
use Rattle.std.proofs.Common.{◌≡◌, ℕ, zero, suc, Bool, true, false, cond, List, [], ◌∷◌, ◌++◌, map, length, Option, Some, None, refl, sym, ap, subst, ◌∙◌, ◌⊎◌, inl, inr, ◌+◌, ◌<◌, drop, arith}
use Rattle.std.specs.Prelude.{bytes_eq, option_map}
use Rattle.std.proofs.lemmas.List.{length-map}
use Rattle.known_classes.specs.declared.summary.ClassSummary.{ClassSummary}
use Rattle.std.specs.Prelude.{◌||◌}
use Rattle.std.specs.Ordering.{nat_cmp, is_lt}
use Rattle.std.specs.Cmp.Lexicographic.{slice_cmp}
use Rattle.std.specs.List.{slice_get}
use Rattle.std.proofs.lemmas.Option.{slice_get-map}
use Rattle.known_classes.specs.Known.{class_named, class_by_canonical, lesser, HasEachOnce, IsPlaceOf, canonical, canonical_by, cycles, comes_to, outer_of, outer_in, nesting_at, simple_in, nested_name, dotted}
use Rattle.known_classes.specs.Nested.{same_text, is_nested, nested_class, surrounds}
use Rattle.known_classes.specs.Least.{IsLeast}
use Rattle.known_classes.specs.NameTables.{NameTable, AreNameTables, member_place}
use Rattle.known_classes.proofs.MergedPlaces.{there}
use Rattle.known_classes.proofs.Leasts.{is-least, called-by, nested-by}
use Rattle.decl_index.specs.History.{Name, Rises, put, remove}
use Rattle.decl_index.specs.Places.{Leaves}
use Rattle.decl_index.specs.Changed.{Each, KeepsNesting}
use Rattle.decl_index.proofs.Sorted.{Above}
use Rattle.decl_index.proofs.State.{one_list}
use Rattle.decl_index.proofs.Cycles.{place_named, each_once}
use Rattle.decl_index.proofs.Kept.{told_puts}

-- The class with its name and its nesting alone.
abbrev strip : ClassSummary → ClassSummary
strip c = record { name = c.name; flags = 0; nesting = c.nesting; supers = []; fields = []; methods = [] }

strip_by : (b : Bool) (c : ClassSummary) (o : Option ClassSummary) → cond b (Some (strip c)) (option_map strip o) ≡ option_map strip (cond b (Some c) o)
strip_by true c o = refl
strip_by false c o = refl

strip_named : (cs : List ClassSummary) (n : Name) → class_named (map strip cs) n ≡ option_map strip (class_named cs n)
unfolding class_named
strip_named [] n = refl
strip_named (c ∷ cs) n = ap (cond (bytes_eq n c.name) (Some (strip c))) (strip_named cs n) ∙ strip_by (bytes_eq n c.name) c (class_named cs n)

strip_above : (n : Name) (cs : List ClassSummary) → Above n cs → Above n (map strip cs)
strip_above n [] h = h
strip_above n (c ∷ cs) h = (h.0, strip_above n cs h.1)

strip_rises : (cs : List ClassSummary) → Rises cs → Rises (map strip cs)
unfolding Rises
strip_rises [] h = h
strip_rises (c ∷ cs) h = (strip_above c.name cs h.0, strip_rises cs h.1)

-- Canonical names of the stripped classes.
strip_nesting : (o : Option ClassSummary) → nesting_at (option_map strip o) ≡ nesting_at o
strip_nesting None = refl
strip_nesting (Some c) = refl

nesting_same : (cs : List ClassSummary) (n : Name) → nesting_at (class_named (map strip cs) n) ≡ nesting_at (class_named cs n)
nesting_same cs n = ap nesting_at (strip_named cs n) ∙ strip_nesting (class_named cs n)

outer_same : (cs : List ClassSummary) (n : Name) → outer_of (map strip cs) n ≡ outer_of cs n
outer_same cs n = ap outer_in (nesting_same cs n)

comes_same : (k : ℕ) (cs : List ClassSummary) (n : Name) (o : Option Name) → comes_to k (map strip cs) n o ≡ comes_to k cs n o
unfolding comes_to
comes_same zero cs n o = refl
comes_same (suc k) cs n None = refl
comes_same (suc k) cs n (Some a) = ap (cond (bytes_eq n a) true) (ap (comes_to k (map strip cs) n) (outer_same cs a) ∙ comes_same k cs n (outer_of cs a))

cycles_same : (cs : List ClassSummary) (n : Name) → cycles (map strip cs) n ≡ cycles cs n
cycles_same cs n = ap (λ k. comes_to k (map strip cs) n (outer_of (map strip cs) n)) (length-map cs strip) ∙ ap (comes_to (length cs) (map strip cs) n) (outer_same cs n) ∙ comes_same (length cs) cs n (outer_of cs n)

nested_same : (o s : Option Name) (f g : Name → Name) (own : Name) → ((x : Name) → f x ≡ g x) → nested_name o s f own ≡ nested_name o s g own
nested_same None s f g own h = refl
nested_same (Some a) None f g own h = refl
nested_same (Some a) (Some b) f g own h = ap (λ x. x ++ 46 ∷ b) (h a)

canonical_by_same : (k : ℕ) (cs : List ClassSummary) (n : Name) → canonical_by k (map strip cs) n ≡ canonical_by k cs n
unfolding canonical_by
canonical_by_same zero cs n = refl
canonical_by_same (suc k) cs n =
    ap (λ b. cond b (dotted n) (nested_name (outer_of (map strip cs) n) (simple_in (nesting_at (class_named (map strip cs) n))) (λ o. canonical_by k (map strip cs) o) (dotted n))) (cycles_same cs n)
    ∙ ap (cond (cycles cs n) (dotted n))
    (ap (λ e. nested_name (outer_in e) (simple_in e) (λ o. canonical_by k (map strip cs) o) (dotted n)) (nesting_same cs n)
    ∙ nested_same (outer_of cs n) (simple_in (nesting_at (class_named cs n))) (λ o. canonical_by k (map strip cs) o) (λ o. canonical_by k cs o) (dotted n) (canonical_by_same k cs))

canonical_same : (cs : List ClassSummary) (n : Name) → canonical (map strip cs) n ≡ canonical cs n
canonical_same cs n = ap (λ k. canonical_by k (map strip cs) n) (length-map cs strip) ∙ canonical_by_same (length cs) cs n

-- Where each class that is put in has the name and the nesting of one that was there.
strip_same : (c d : ClassSummary) → c.name ≡ d.name → c.nesting ≡ d.nesting → strip c ≡ strip d
strip_same c d e h = ap (λ n. record { name = n; flags = 0; nesting = c.nesting; supers = []; fields = []; methods = [] }) e ∙ ap (λ k. record { name = d.name; flags = 0; nesting = k; supers = []; fields = []; methods = [] }) h

told_same : (old : List ClassSummary) (n : Name) (new : Option ClassSummary) → (new ≡ class_named old n) ⊎ ((c : ClassSummary) × ((new ≡ Some c) × ((c.name ≡ n) × KeepsNesting old c))) → option_map strip new ≡ option_map strip (class_named old n)
told_same old n new (inl e) = ap (option_map strip) e
told_same old n new (inr h) =
    let k : KeepsNesting old h.0 = h.1.1.1 in
    let name : k.class.name ≡ h.0.name = (place_named old h.0.name k.class k.known).1.1 in
    let known : class_named old n ≡ Some k.class = subst (λ m. class_named old m ≡ Some k.class) h.1.1.0 k.known in
    ap (option_map strip) h.1.0 ∙ ap Some (sym (strip_same k.class h.0 name k.same)) ∙ sym (ap (option_map strip) known)

outline : (puts old new : List ClassSummary) → Rises old → Leaves (map put puts) old new → Each (KeepsNesting old) puts → map strip new ≡ map strip old
outline puts old new r l h =
    one_list (map strip new) (map strip old) (strip_rises new l.rises) (strip_rises old r)
    (λ n. strip_named new n ∙ told_same old n (class_named new n) (subst (λ o. (o ≡ class_named old n) ⊎ ((c : ClassSummary) × ((o ≡ Some c) × ((c.name ≡ n) × KeepsNesting old c)))) (sym (l.each n)) (told_puts (KeepsNesting old) n puts (class_named old n) h)) ∙ sym (strip_named old n))

-- What is said of stripped classes.
called-cons : (all : List ClassSummary) (c : ClassSummary) (cs : List ClassSummary) (n : Name) → class_by_canonical all (c ∷ cs) n ≡ cond (bytes_eq n (canonical all c.name)) (Some (lesser c (class_by_canonical all cs n))) (class_by_canonical all cs n)
unfolding class_by_canonical
called-cons all c cs n = refl

called-nil : (all : List ClassSummary) (n : Name) → class_by_canonical all [] n ≡ None
unfolding class_by_canonical
called-nil all n = refl

lesser-by : (b : Bool) (c d : ClassSummary) → cond b (strip d) (strip c) ≡ strip (cond b d c)
lesser-by true c d = refl
lesser-by false c d = refl

strip_lesser : (c : ClassSummary) (o : Option ClassSummary) → lesser (strip c) (option_map strip o) ≡ strip (lesser c o)
strip_lesser c None = refl
strip_lesser c (Some d) = lesser-by (is_lt (slice_cmp nat_cmp d.name c.name)) c d

strip_cond : (b : Bool) (x : ClassSummary) (o : Option ClassSummary) → cond b (Some (strip x)) (option_map strip o) ≡ option_map strip (cond b (Some x) o)
strip_cond true x o = refl
strip_cond false x o = refl

strip_called : (all cs : List ClassSummary) (n : Name) → class_by_canonical (map strip all) (map strip cs) n ≡ option_map strip (class_by_canonical all cs n)
strip_called all [] n = called-nil (map strip all) n ∙ sym (ap (option_map strip) (called-nil all n))
strip_called all (c ∷ cs) n =
    called-cons (map strip all) (strip c) (map strip cs) n
    ∙ ap (λ b. cond b (Some (lesser (strip c) (class_by_canonical (map strip all) (map strip cs) n))) (class_by_canonical (map strip all) (map strip cs) n)) (ap (bytes_eq n) (canonical_same all c.name))
    ∙ ap (λ o. cond (bytes_eq n (canonical all c.name)) (Some (lesser (strip c) o)) o) (strip_called all cs n)
    ∙ ap (λ x. cond (bytes_eq n (canonical all c.name)) (Some x) (option_map strip (class_by_canonical all cs n))) (strip_lesser c (class_by_canonical all cs n))
    ∙ strip_cond (bytes_eq n (canonical all c.name)) (lesser c (class_by_canonical all cs n)) (class_by_canonical all cs n)
    ∙ sym (ap (option_map strip) (called-cons all c cs n))

nested-cons : (outer n : Name) (c : ClassSummary) (cs : List ClassSummary) → nested_class outer n (c ∷ cs) ≡ cond (is_nested outer n c.nesting) (Some (lesser c (nested_class outer n cs))) (nested_class outer n cs)
unfolding nested_class
nested-cons outer n c cs = refl

nested-nil : (outer n : Name) → nested_class outer n [] ≡ None
unfolding nested_class
nested-nil outer n = refl

strip_nested : (outer n : Name) (cs : List ClassSummary) → nested_class outer n (map strip cs) ≡ option_map strip (nested_class outer n cs)
strip_nested outer n [] = nested-nil outer n ∙ sym (ap (option_map strip) (nested-nil outer n))
strip_nested outer n (c ∷ cs) =
    nested-cons outer n (strip c) (map strip cs)
    ∙ ap (λ o. cond (is_nested outer n c.nesting) (Some (lesser (strip c) o)) o) (strip_nested outer n cs)
    ∙ ap (λ x. cond (is_nested outer n c.nesting) (Some x) (option_map strip (nested_class outer n cs))) (strip_lesser c (nested_class outer n cs))
    ∙ strip_cond (is_nested outer n c.nesting) (lesser c (nested_class outer n cs)) (nested_class outer n cs)
    ∙ sym (ap (option_map strip) (nested-cons outer n c cs))

strip_surrounds : (cs : List ClassSummary) (n : Name) → surrounds (map strip cs) n ≡ surrounds cs n
unfolding surrounds
strip_surrounds [] n = refl
strip_surrounds (c ∷ cs) n = ap (λ (b : Bool). same_text (outer_in c.nesting) n || b) (strip_surrounds cs n)

-- A place of a class among the stripped ones is its place.
up : (cs : List ClassSummary) (x : Option ClassSummary) (r : Option ℕ) → IsPlaceOf cs x r → IsPlaceOf (map strip cs) (option_map strip x) r
up cs x None h = ap (option_map strip) h
up cs x (Some i) h = (let l = length-map cs strip in let k = h.0 in omega (arith, l, k), ap (option_map strip) h.1 ∙ sym (slice_get-map strip cs i))

down-by : (cs : List ClassSummary) (x : Option ClassSummary) (i : ℕ) (d : ClassSummary) → HasEachOnce cs → ((c : ClassSummary) → x ≡ Some c → (j : ℕ) × (slice_get cs j ≡ Some c)) → slice_get cs i ≡ Some d → option_map strip x ≡ Some (strip d) → x ≡ slice_get cs i
down-by cs None i d once among g e = absurd cc
down-by cs (Some c) i d once among g e =
    let q : strip c ≡ strip d = cc in
    let n : c.name ≡ d.name = ap (λ (y : ClassSummary). y.name) q in
    let j = among c refl in
    let s = once.once j.0 i c d j.1 g n in
    sym j.1 ∙ ap (slice_get cs) s

no-class : (x : Option ClassSummary) → option_map strip x ≡ None → x ≡ None
no-class None e = refl
no-class (Some c) e = absurd cc

down : (cs : List ClassSummary) (x : Option ClassSummary) (r : Option ℕ) → HasEachOnce cs → ((c : ClassSummary) → x ≡ Some c → (j : ℕ) × (slice_get cs j ≡ Some c)) → IsPlaceOf (map strip cs) (option_map strip x) r → IsPlaceOf cs x r
down cs x None once among h = no-class x h
down cs x (Some i) once among h =
    let l : i < length cs = (let m = length-map cs strip in let k = h.0 in omega (arith, m, k)) in
    let d = there cs i l in
    (l, down-by cs x i d.0 once among d.1 (h.1 ∙ slice_get-map strip cs i ∙ ap (option_map strip) d.1))

called-among : (all cs : List ClassSummary) (n : Name) (c : ClassSummary) → class_by_canonical all cs n ≡ Some c → (j : ℕ) × (slice_get cs j ≡ Some c)
called-among all cs n c e =
    let t : ClassSummary → Bool = λ x. bytes_eq n (canonical all x.name) in
    let h : IsLeast t cs (Some c) = subst (IsLeast t cs) (sym (called-by all cs n) ∙ e) (is-least t cs) in
    (h.place, h.there)

nested-among : (outer n : Name) (cs : List ClassSummary) (c : ClassSummary) → nested_class outer n cs ≡ Some c → (j : ℕ) × (slice_get cs j ≡ Some c)
nested-among outer n cs c e =
    let t : ClassSummary → Bool = λ x. is_nested outer n x.nesting in
    let h : IsLeast t cs (Some c) = subst (IsLeast t cs) (sym (nested-by outer n cs) ∙ e) (is-least t cs) in
    (h.place, h.there)

-- Two lists with the same stripped classes have the same tables.
canon : (old new : List ClassSummary) → map strip new ≡ map strip old → (n : Name) → canonical new n ≡ canonical old n
canon old new o n = sym (canonical_same new n) ∙ ap (λ cs. canonical cs n) o ∙ canonical_same old n

same-place : (x : Option ClassSummary) (c : ClassSummary) → option_map strip x ≡ Some (strip c) → (d : ClassSummary) × (x ≡ Some d) × (d.name ≡ c.name)
same-place None c e = absurd cc
same-place (Some d) c e = let q : strip d ≡ strip c = cc in (d, refl, ap (λ (y : ClassSummary). y.name) q)

called-on : (old new : List ClassSummary) → map strip new ≡ map strip old → HasEachOnce new → (n : Name) (r : Option ℕ) → IsPlaceOf old (class_by_canonical old old n) r → IsPlaceOf new (class_by_canonical new new n) r
called-on old new o once n r h =
    let u : IsPlaceOf (map strip old) (class_by_canonical (map strip old) (map strip old) n) r = subst (λ x. IsPlaceOf (map strip old) x r) (sym (strip_called old old n)) (up old (class_by_canonical old old n) r h) in
    let v : IsPlaceOf (map strip new) (class_by_canonical (map strip new) (map strip new) n) r = subst (λ cs. IsPlaceOf cs (class_by_canonical cs cs n) r) (sym o) u in
    down new (class_by_canonical new new n) r once (called-among new new n) (subst (λ x. IsPlaceOf (map strip new) x r) (strip_called new new n) v)

nested-on : (old new : List ClassSummary) → map strip new ≡ map strip old → HasEachOnce new → (outer n : Name) (r : Option ℕ) → IsPlaceOf old (nested_class outer n old) r → IsPlaceOf new (nested_class outer n new) r
nested-on old new o once outer n r h =
    let u : IsPlaceOf (map strip old) (nested_class outer n (map strip old)) r = subst (λ x. IsPlaceOf (map strip old) x r) (sym (strip_nested outer n old)) (up old (nested_class outer n old) r h) in
    let v : IsPlaceOf (map strip new) (nested_class outer n (map strip new)) r = subst (λ cs. IsPlaceOf cs (nested_class outer n cs) r) (sym o) u in
    down new (nested_class outer n new) r once (nested-among outer n new) (subst (λ x. IsPlaceOf (map strip new) x r) (strip_nested outer n new) v)

whole : {A : Type 0} (n : ℕ) (xs : List A) → n ≡ 0 → drop n xs ≡ xs
whole n xs e = ap (λ k. drop k xs) e

tables_on : (old new : List ClassSummary) → map strip new ≡ map strip old → HasEachOnce new → (t : NameTable) → t.from ≡ 0 → AreNameTables old t → AreNameTables new t
tables_on old new o once t z h = record {
  once = once;
  texts = record {
    size = let l : length new ≡ length old = sym (length-map new strip) ∙ ap length o ∙ length-map old strip in let s = h.texts.size in omega (arith, l, s);
    each = λ i c l g.
        let d = same-place (slice_get old (t.from + i)) c (sym (slice_get-map strip old (t.from + i)) ∙ ap (λ (cs : List ClassSummary). slice_get cs (t.from + i)) (sym o) ∙ slice_get-map strip new (t.from + i) ∙ ap (option_map strip) g) in
        h.texts.each i d.0 l d.1 ∙ ap Some (ap (canonical old) d.2 ∙ sym (canon old new o c.name));
  };
  canonical = record {
    within = omega (arith, z);
    each = λ n. subst (λ cs. IsPlaceOf new (class_by_canonical new cs n) (t.canonical n)) (sym (whole t.from new z)) (called-on old new o once n (t.canonical n) (subst (λ cs. IsPlaceOf old (class_by_canonical old cs n) (t.canonical n)) (whole t.from old z) (h.canonical.each n)));
  };
  members = record {
    within = omega (arith, z);
    numbered = h.members.numbered;
    nested = λ outer n. subst (λ cs. IsPlaceOf new (nested_class outer n cs) (member_place t.outers t.members outer n)) (sym (whole t.from new z)) (nested-on old new o once outer n (member_place t.outers t.members outer n) (subst (λ cs. IsPlaceOf old (nested_class outer n cs) (member_place t.outers t.members outer n)) (whole t.from old z) (h.members.nested outer n)));
    outers = λ n. h.members.outers n ∙ ap (λ cs. surrounds cs n) (whole t.from old z) ∙ sym (strip_surrounds old n) ∙ ap (λ cs. surrounds cs n) (sym o) ∙ strip_surrounds new n ∙ ap (λ cs. surrounds cs n) (sym (whole t.from new z));
  };
}

pub names_kept : (removes : List Name) (puts old new : List ClassSummary) → removes ≡ [] → Rises old → Leaves (map remove removes ++ map put puts) old new → Each (KeepsNesting old) puts → (t : NameTable) → t.from ≡ 0 → AreNameTables old t → AreNameTables new t
names_kept removes puts old new none r l h t z a =
    let m = subst (λ ms. Leaves (map remove ms ++ map put puts) old new) none l in
    tables_on old new (outline puts old new r m h) (each_once new m.rises) t z a

pub rises_none : {A : Type 0} (f : A → ClassSummary) (xs : List A) → xs ≡ [] → Rises (map f xs)
unfolding Rises
rises_none f xs e = subst (λ ys. Rises (map f ys)) (sym e) tt
