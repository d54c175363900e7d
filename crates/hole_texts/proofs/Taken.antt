-- What names stand in the way at a hole: no text of a static member begins with one of them.
use Rattle.std.proofs.Common.{◌≡◌, ◌∙◌, ◌⊎◌, inl, inr, sym, ap, subst, refl, arith, rules, tests, ℕ, zero, suc, ◌<◌, ◌==◌, ◌||◌, if◌then◌else◌, Bool, true, false, List, [], ◌∷◌, ◌++◌, length, map, bytes_eq, slice_get, get_or, IsUtf8, Some}
use Rattle.std.specs.List.{AllByRecursion, list_any, flat_map}
use Rattle.std.proofs.lemmas.Bool.{false≢true, both_ways, or_cases, or_left, or_right, eqb-true, and_from}
use Rattle.std.proofs.lemmas.List.Folds.{list_any-append}
use Rattle.type_names.specs.declared.kinds.Erased.{Erased}
use Rattle.terms.specs.Typing.{is_below, is_pair}
use Rattle.terms.specs.Apart.{IsOf, IsDotted, IsOwnField}
use Rattle.terms.specs.declared.parts.Arg.{Arg}
use Rattle.terms.specs.declared.parts.Arg.TheVariants.{Plain}
use Rattle.terms.specs.declared.parts.Decl.{Decl}
use Rattle.terms.specs.declared.parts.Form.{Form}
use Rattle.terms.specs.declared.parts.Form.TheVariants.{Name, This, Field}
use Rattle.java_units.specs.Signs.{has}
use Rattle.java_units.specs.declared.types.SourceClass.{SourceClass}
use Rattle.java_units.specs.UnitLaws.{outer_number}
use Rattle.known_classes.specs.declared.summary.ClassSummary.{ClassSummary}
use Rattle.known_classes.specs.Known.{class_named}
use Rattle.known_classes.proofs.TextPlaces.{named_at}
use Rattle.class_summary.specs.Sources.{around_by, around}
use Rattle.java_shapes.specs.Words.{literals}
use Rattle.java_shapes.proofs.WordFacts.{lacks_not, literal_word}
use Rattle.offers.specs.Scenes.{Scene, edited, of_class, is_among}
use Rattle.offers.specs.Pairs.{pairs_of}
use Rattle.offers.specs.declared.member.Kind.{Kind}
use Rattle.offers.specs.declared.member.Kind.TheVariants as kind
use Rattle.offers.specs.declared.member.Member.{Member}
use Rattle.offers.specs.Candidates.{same_kind, is_static}
use Rattle.offers.specs.Omissions.{after_four, owner_text, static_text, scope_names, field_names, names_around, names_above, taken_names, is_static_field, field_text, field_texts}
use Rattle.scopes.specs.Kinds.{Kinds, count, type_number, is_below_in}
use Rattle.scopes.specs.Binders.{form_text}
use Rattle.scopes.specs.Declarations.{member_decl}
use Rattle.scopes.specs.Environments.{parts_by}
use Rattle.scopes.proofs.Numbered.{Has, type-among}
use Rattle.scopes.proofs.PairLaws.{pairs-are}
use Rattle.hole_texts.proofs.Pairs.{all-at}
use Rattle.hole_texts.proofs.Paths.{IsFront, front-of, front-first}
use Rattle.hole_texts.proofs.Spelled.{IsName, class-name, dotless, spelling-names, spelling-parts}
use Rattle.hole_texts.proofs.Members.{IsMember}
use Rattle.hole_texts.proofs.Left.{IsLeft, Stands, first-free, front-prefix}
use Rattle.hole_texts.proofs.Origins.{IsSite, IsMade, Origin, this, local, literal, made, lambda, among-left, among-right}
use Rattle.hole_texts.proofs.Shown.{Shape, static_field, own_field, static_method, own_method, maker, shape, arg_of, args-are, own-wants, same-number, field-made, method-made, name-word, IsStatic, static-parts}
use Rattle.hole_texts.proofs.Alike.{not-this, name-shape}
use Rattle.hole_texts.proofs.Places.{literal-no-name}

-- names that are taken
pub among-flat : {A : Type 0} (f : A → List (List ℕ)) (xs : List A) (w : List ℕ) → list_any (λ x. is_among (f x) w) xs ≡ is_among (flat_map f xs) w
among-flat f [] w = refl
among-flat f (x ∷ xs) w = ap (λ b. is_among (f x) w || b) (among-flat f xs w) ∙ sym (list_any-append (λ t. bytes_eq t w) (f x) (flat_map f xs))

any-place : {A : Type 0} (p : A → Bool) (xs : List A) (i : ℕ) (x : A) → slice_get xs i ≡ Some x → p x ≡ true → list_any p xs ≡ true
any-place p [] i x e h = absurd cc
any-place p (y ∷ ys) zero x e h = let same : y ≡ x = cc in or_left (p y) (list_any p ys) (ap p same ∙ h)
any-place p (y ∷ ys) (suc i) x e h = or_right (p y) (list_any p ys) (any-place p ys i x e h)

pub scope-taken : (v : Scene) (w : List ℕ) → is_among (scope_names v) w ≡ true → is_among (taken_names v) w ≡ true
unfolding taken_names
scope-taken v w e = among-left (scope_names v ++ flat_map (names_around v) (around v.unit.classes v.site.class)) (flat_map (names_above v) v.known) w (among-left (scope_names v) (flat_map (names_around v) (around v.unit.classes v.site.class)) w e)

-- the edited class is around itself
around-own : (n : ℕ) (cs : List SourceClass) (i : ℕ) (p : ℕ → Bool) → 0 < n → p i ≡ true → list_any p (around_by n cs (Some i)) ≡ true
unfolding around_by
around-own zero cs i p l e = absurd (omega (arith, l))
around-own (suc n) cs i p l e = or_left (p i) (list_any p (around_by n cs (outer_number (slice_get cs i)))) e

edited-taken : (v : Scene) (c : ClassSummary) (place : ℕ) (w : List ℕ) → IsSite v → slice_get v.known place ≡ Some c → c.name ≡ edited v → is_among (map (λ f. f.name) c.fields) w ≡ true → is_among (taken_names v) w ≡ true
unfolding taken_names
edited-taken v c place w s e q h =
    let named : class_named v.known (edited v) ≡ Some c = subst (λ n. class_named v.known n ≡ Some c) q (named_at v.known place c s.known e) in
    let here : is_among (names_around v v.site.class) w ≡ true = ap (λ o. is_among (field_names o) w) named ∙ h in
    let long : 0 < length v.unit.classes = omega (arith, s.class) in
    among-left (scope_names v ++ flat_map (names_around v) (around v.unit.classes v.site.class)) (flat_map (names_above v) v.known) w
    (among-right (scope_names v) (flat_map (names_around v) (around v.unit.classes v.site.class)) w
    (sym (among-flat (names_around v) (around v.unit.classes v.site.class) w) ∙ around-own (length v.unit.classes) v.unit.classes v.site.class (λ i. is_among (names_around v i) w) long here))

above-by : (b : Bool) (xs : List (List ℕ)) (w : List ℕ) → b ≡ true → is_among xs w ≡ true → is_among (if b then xs else []) w ≡ true
above-by true xs w e h = h
above-by false xs w e h = absurd (false≢true e)

above-taken : (v : Scene) (c : ClassSummary) (place : ℕ) (w : List ℕ) → slice_get v.known place ≡ Some c → v.below (of_class (edited v)) (of_class c.name) ≡ true → is_among (map (λ f. f.name) c.fields) w ≡ true → is_among (taken_names v) w ≡ true
unfolding taken_names
above-taken v c place w e b h =
    among-right (scope_names v ++ flat_map (names_around v) (around v.unit.classes v.site.class)) (flat_map (names_above v) v.known) w
    (sym (among-flat (names_above v) v.known w) ∙ any-place (λ d. is_among (names_above v d) w) v.known place c e (above-by (v.below (of_class (edited v)) (of_class c.name)) (map (λ f. f.name) c.fields) w b h))

pub field-taken : (v : Scene) (m : Member) → IsSite v → IsMember v m → m.kind ≡ kind.Field → (edited v ≡ m.owner) ⊎ (v.below (of_class (edited v)) (of_class m.owner) ≡ true) → is_among (taken_names v) m.name ≡ true
field-taken v m s h k (inl e) = edited-taken v h.class h.placed.place m.name s h.placed.is (sym h.of.owner ∙ sym e) (h.of.field k)
field-taken v m s h k (inr e) = above-taken v h.class h.placed.place m.name h.placed.is (subst (λ n. v.below (of_class (edited v)) (of_class n) ≡ true) h.of.owner e) (h.of.field k)

-- a field that `this` has
pub record IsOwn (v : Scene) (s : List ℕ) (hidden : Bool) : Type 0 where
  pub name : IsName s
  pub taken : is_among (taken_names v) s ≡ true
  pub hides : hidden ≡ is_among (scope_names v) s

field-parts : (f : Form) (s t : List ℕ) (h k : Bool) → f ≡ Field s h → f ≡ Field t k → (s ≡ t) × (h ≡ k)
field-parts f s t h k a b = let p : s ≡ t = cc in let q : h ≡ k = cc in (p, q)

this-number : (v : Scene) (ks : Kinds) (ms : List Member) (d : Decl) → Origin v ks ms d → d.form ≡ This → d.result ≡ type_number ks (of_class (edited v))
this-number v ks ms d (this h) e = h.result
this-number v ks ms d (local h) e = let q = h.form in absurd cc
this-number v ks ms d (literal h) e = let q = h.form in absurd cc
this-number v ks ms d (made h) e = absurd (not-this v h.member (member_decl v ks ms h.member).form h.member.kind (is_static h.member) (shape v ks ms h.member) (sym (ap (λ x. x.form) h.is) ∙ e))
this-number v ks ms d (lambda h) e = let q = h.form in absurd cc

receiver-of : (xs : List Arg) (b a : ℕ) → xs ≡ Plain b ∷ [] → IsOf xs a → b ≡ a
receiver-of xs b a e h = only (subst (λ z. IsOf z a) e h)
  where
    only : IsOf (Plain b ∷ []) a → b ≡ a
    only q = q

stands-has : (ks : Kinds) (t : Erased) → Stands ks t → Has ks.types t
unfolding Has
stands-has ks t h = h

below-owner : (v : Scene) (ks : Kinds) (ds : List Decl) (limit depth : ℕ) (owner : List ℕ) → Stands ks (of_class (edited v)) → Stands ks (of_class owner) → is_below (parts_by v ks ds limit depth) (type_number ks (of_class (edited v))) (type_number ks (of_class owner)) ≡ true → (edited v ≡ owner) ⊎ (v.below (of_class (edited v)) (of_class owner) ≡ true)
unfolding is_below
below-owner v ks ds limit depth owner h k e =
    let a = type_number ks (of_class (edited v)) in
    let b = type_number ks (of_class owner) in
    elim (or_cases (a == b) (is_pair (pairs_of (count ks) (is_below_in v ks)) a b) e) [
      | inl q ↦ inl (class-name (edited v) owner (same-number ks (of_class (edited v)) (of_class owner) h k (eqb-true a b q)))
      | inr q ↦ inr (sym (pairs-are v ks (Some (of_class (edited v))) (Some (of_class owner)) (type-among ks (of_class (edited v)) (stands-has ks (of_class (edited v)) h)) (type-among ks (of_class owner) (stands-has ks (of_class owner) k))) ∙ q)
    ]

own-shape : (v : Scene) (m : Member) (f : Form) (k : Kind) (s : Bool) (t : List ℕ) (h : Bool) → Shape v m f k s → f ≡ Field t h → (k ≡ kind.Field) × (s ≡ false) × (t ≡ m.name) × (h ≡ is_among (scope_names v) m.name)
own-shape v m f k s t h (static_field a b e) q = absurd cc
own-shape v m f k s t h (own_field a b e) q = let p = field-parts f t m.name h (is_among (scope_names v) m.name) q e in (a, b, p.0, p.1)
own-shape v m f k s t h (static_method a b e) q = absurd cc
own-shape v m f k s t h (own_method a b e) q = absurd cc
own-shape v m f k s t h (maker a e) q = absurd cc

own-made : (v : Scene) (ks : Kinds) (ms : List Member) (ds : List Decl) (limit depth : ℕ) → IsSite v → Stands ks (of_class (edited v)) → AllByRecursion (Origin v ks ms) ds → (d : Decl) (s : List ℕ) (hidden : Bool) → IsMade v ks ms d → IsOwnField (parts_by v ks ds limit depth) d s hidden → IsOwn v s hidden
own-made v ks ms ds limit depth site own all d s hidden k h =
    let m = k.member in
    let f = (member_decl v ks ms m).form in
    let form : f ≡ Field s hidden = sym (ap (λ (x : Decl). x.form) k.is) ∙ h.form in
    let p = own-shape v m f m.kind (is_static m) s hidden (shape v ks ms m) form in
    let args : d.args ≡ Plain (type_number ks (of_class m.owner)) ∷ [] = ap (λ (x : Decl). x.args) k.is ∙ args-are v ks ms m ∙ ap (map (arg_of ks)) (own-wants m p.0 p.1) in
    let owner : type_number ks (of_class m.owner) ≡ h.owner = receiver-of d.args (type_number ks (of_class m.owner)) h.owner args h.receiver in
    let number : h.this.result ≡ type_number ks (of_class (edited v)) = this-number v ks ms h.this (all-at (Origin v ks ms) ds h.number h.this all h.declared) h.is_this in
    let g = parts_by v ks ds limit depth in
    let below : is_below g (type_number ks (of_class (edited v))) (type_number ks (of_class m.owner)) ≡ true = subst (λ x. is_below g x (type_number ks (of_class m.owner)) ≡ true) number (subst (λ x. is_below g h.this.result x ≡ true) (sym owner) h.below) in
    let text : IsUtf8 m.name = subst IsUtf8 p.2 (subst (λ x. IsUtf8 (form_text x)) form k.shown.utf8) in
    let word = name-word v ks ms m site k.shown.left (λ q. field-made (sym p.0 ∙ q)) in
    let taken = field-taken v m site k.shown.left.member p.0 (below-owner v ks ds limit depth m.owner own k.shown.left.own below) in
    record {
      name = subst IsName (sym p.2) (record { utf8 = text; identifier = word });
      taken = subst (λ w. is_among (taken_names v) w ≡ true) (sym p.2) taken;
      hides = subst (λ w. hidden ≡ is_among (scope_names v) w) (sym p.2) p.3;
    }

pub own-is : (v : Scene) (ks : Kinds) (ms : List Member) (ds : List Decl) (limit depth : ℕ) → IsSite v → Stands ks (of_class (edited v)) → AllByRecursion (Origin v ks ms) ds → (d : Decl) (s : List ℕ) (hidden : Bool) → Origin v ks ms d → IsOwnField (parts_by v ks ds limit depth) d s hidden → IsOwn v s hidden
own-is v ks ms ds limit depth site own all d s hidden (this k) h = let a = k.form in let b = h.form in absurd cc
own-is v ks ms ds limit depth site own all d s hidden (local k) h = let a = k.form in let b = h.form in absurd cc
own-is v ks ms ds limit depth site own all d s hidden (literal k) h = let a = k.form in let b = h.form in absurd cc
own-is v ks ms ds limit depth site own all d s hidden (made k) h = own-made v ks ms ds limit depth site own all d s hidden k h
own-is v ks ms ds limit depth site own all d s hidden (lambda k) h = let a = k.form in let b = h.form in absurd cc

-- a static member whose text is cut before a dot
pub record IsDottedBy (v : Scene) (ks : Kinds) (ms : List Member) (front : List ℕ) : Type 0 where
  pub member : Member
  pub left : IsLeft v ks ms member
  pub static : is_static member ≡ true
  pub parts_are : IsStatic v member
  pub cut : IsFront (owner_text v member) front

dotted-static : (v : Scene) (ks : Kinds) (ms : List Member) (front rest : List ℕ) (m : Member) → IsSite v → IsLeft v ks ms m → (m.kind ≡ kind.Constructor → ⊥) → is_static m ≡ true → IsUtf8 (static_text v m) → static_text v m ≡ front ++ 46 ∷ rest → IsDottedBy v ks ms front
dotted-static v ks ms front rest m site h f s u e =
    let k = static-parts v ks ms m site h f s u in
    record { member = m; left = h; static = s; parts_are = k; cut = front-of (owner_text v m) m.name front rest (dotless m.name k.name) (sym e) }

dotted-shape : (v : Scene) (ks : Kinds) (ms : List Member) (front rest : List ℕ) (m : Member) (f : Form) → IsSite v → IsLeft v ks ms m → IsUtf8 (form_text f) → Shape v m f m.kind (is_static m) → IsDotted f (front ++ 46 ∷ rest) → IsDottedBy v ks ms front
dotted-shape v ks ms front rest m f site h u (static_field k s e) d = dotted-static v ks ms front rest m site h (λ q. field-made (sym k ∙ q)) s (subst (λ x. IsUtf8 (form_text x)) e u) (subst (λ x. IsDotted x (front ++ 46 ∷ rest)) e d)
dotted-shape v ks ms front rest m f site h u (own_field k s e) d = absurd (subst (λ x. IsDotted x (front ++ 46 ∷ rest)) e d)
dotted-shape v ks ms front rest m f site h u (static_method k s e) d = dotted-static v ks ms front rest m site h (λ q. method-made (sym k ∙ q)) s (subst (λ x. IsUtf8 (form_text x)) e u) (subst (λ x. IsDotted x (front ++ 46 ∷ rest)) e d)
dotted-shape v ks ms front rest m f site h u (own_method k s e) d = absurd (subst (λ x. IsDotted x (front ++ 46 ∷ rest)) e d)
dotted-shape v ks ms front rest m f site h u (maker k e) d = absurd (subst (λ x. IsDotted x (front ++ 46 ∷ rest)) e d)

pub dotted-by : (v : Scene) (ks : Kinds) (ms : List Member) (front rest : List ℕ) (c : Decl) → IsSite v → Origin v ks ms c → IsDotted c.form (front ++ 46 ∷ rest) → IsDottedBy v ks ms front
dotted-by v ks ms front rest c site (this k) d = absurd (subst (λ x. IsDotted x (front ++ 46 ∷ rest)) k.form d)
dotted-by v ks ms front rest c site (local k) d = absurd (lacks_not 46 k.text front rest (dotless k.text k.name) (subst (λ x. IsDotted x (front ++ 46 ∷ rest)) k.form d))
dotted-by v ks ms front rest c site (literal k) d = absurd (lacks_not 46 k.text front rest (literal_word k.text k.is).dotless (subst (λ x. IsDotted x (front ++ 46 ∷ rest)) k.form d))
dotted-by v ks ms front rest c site (made k) d = dotted-shape v ks ms front rest k.member (member_decl v ks ms k.member).form site k.shown.left k.shown.utf8 (shape v ks ms k.member) (subst (λ (x : Decl). IsDotted x.form (front ++ 46 ∷ rest)) k.is d)
dotted-by v ks ms front rest c site (lambda k) d = absurd (subst (λ x. IsDotted x (front ++ 46 ∷ rest)) k.form d)

-- no such front is a name that is taken, or a static field
pub front-free : (v : Scene) (ks : Kinds) (ms : List Member) (front : List ℕ) → IsDottedBy v ks ms front → IsName front → is_among (taken_names v) front ≡ true → ⊥
front-free v ks ms front h n e =
    let f = first-free v (taken_names v) (field_texts v (after_four v ks.types ms)) h.member h.left.shown h.static in
    both_ways (is_among (taken_names v) front) (ap (is_among (taken_names v)) (front-first (owner_text v h.member) front (dotless front n) h.cut) ∙ f.0) e

front-literal : (v : Scene) (ks : Kinds) (ms : List Member) (front : List ℕ) → IsSite v → IsDottedBy v ks ms front → has literals front ≡ true → ⊥
front-literal v ks ms front site h e =
    let k = h.parts_are in
    let first : front ≡ k.spelled.first = front-first (owner_text v h.member) front (literal_word front e).dotless h.cut ∙ ap (λ ps. get_or ps 0 []) (spelling-parts v h.member.owner (owner_text v h.member) site.word k.owner k.spelled) in
    let name : IsName k.spelled.first = (spelling-names v h.member.owner (owner_text v h.member) site.word k.owner k.spelled).0 in
    literal-no-name front e (subst IsName (sym first) name).identifier

field-by : (b : Bool) (w : List ℕ) → b ≡ true → is_among (if b then w ∷ [] else []) w ≡ true
field-by true w e = let q : bytes_eq w w ≡ true = search (rules, tests) in or_left (bytes_eq w w) false q
field-by false w e = absurd (false≢true e)

front-field : (v : Scene) (ks : Kinds) (ms : List Member) (front : List ℕ) (m : Member) → IsDottedBy v ks ms front → IsLeft v ks ms m → m.kind ≡ kind.Field → is_static m ≡ true → front ≡ static_text v m → ⊥
front-field v ks ms front m h k kind_is s e =
    let f = first-free v (taken_names v) (field_texts v (after_four v ks.types ms)) h.member h.left.shown h.static in
    let test : is_static_field m ≡ true = and_from (same_kind m.kind kind.Field) (is_static m) (ap (λ x. same_kind x kind.Field) kind_is) s in
    let one : is_among (field_text v m) front ≡ true = ap (is_among (field_text v m)) e ∙ field-by (is_static_field m) (static_text v m) test in
    let among : is_among (field_texts v (after_four v ks.types ms)) front ≡ true = sym (among-flat (field_text v) (after_four v ks.types ms) front) ∙ k.four (λ x. is_among (field_text v x) front) one in
    false≢true (sym f.1 ∙ front-prefix (is_among (field_texts v (after_four v ks.types ms))) (owner_text v h.member) front h.cut among)

pub front-no-name : (v : Scene) (ks : Kinds) (ms : List Member) (front : List ℕ) (d : Decl) → IsSite v → IsDottedBy v ks ms front → Origin v ks ms d → d.form ≡ Name front → ⊥
front-no-name v ks ms front d site h (this k) e = let a = k.form in cc
front-no-name v ks ms front d site h (local k) e =
    let a = k.form in
    let same : k.text ≡ front = cc in
    front-free v ks ms front h (subst IsName same k.name) (scope-taken v front (subst (λ w. is_among (scope_names v) w ≡ true) same k.taken))
front-no-name v ks ms front d site h (literal k) e =
    let a = k.form in
    let same : k.text ≡ front = cc in
    front-literal v ks ms front site h (subst (λ w. has literals w ≡ true) same k.is)
front-no-name v ks ms front d site h (made k) e =
    let f = (member_decl v ks ms k.member).form in
    let p = name-shape v k.member f k.member.kind (is_static k.member) front (shape v ks ms k.member) (sym (ap (λ (x : Decl). x.form) k.is) ∙ e) in
    front-field v ks ms front k.member h k.shown.left p.kind_is p.static p.is
front-no-name v ks ms front d site h (lambda k) e = let a = k.form in cc
