-- Where the declarations of an environment come from.
use Rattle.std.proofs.Common.{◌≡◌, ◌∙◌, ap, subst, refl, ℕ, zero, suc, ◌<◌, if◌then◌else◌, Bool, true, false, List, [], ◌∷◌, ◌++◌, length, map, codes, bytes_eq, slice_get, unwrap_or, IsUtf8, Some}
use Rattle.std.specs.List.{AllByRecursion}
use Rattle.std.proofs.lemmas.Bool.{or_left, or_right}
use Rattle.std.proofs.lemmas.List.Folds.{list_any-append}
use Rattle.std.proofs.lemmas.Slice.Eq.{bytes_eq-Decides}
use Rattle.type_names.specs.declared.kinds.Base.TheVariants as base
use Rattle.type_names.specs.declared.kinds.Erased.{Erased}
use Rattle.terms.specs.declared.parts.Decl.{Decl}
use Rattle.terms.specs.declared.parts.Form.TheVariants.{Name, This, Lambda}
use Rattle.java_units.specs.Signs.{has}
use Rattle.java_units.specs.Identifiers.{is_identifier}
use Rattle.known_classes.specs.Known.{HasEachOnce}
use Rattle.java_bodies.specs.declared.site.Local.{Local}
use Rattle.java_shapes.specs.Words.{literals}
use Rattle.offers.specs.Scenes.{Scene, edited, of_class, denoted, is_among}
use Rattle.offers.specs.Spellings.{class_spelling}
use Rattle.offers.specs.Omissions.{after_five, scope_names}
use Rattle.offers.specs.Functional.{of_base}
use Rattle.offers.specs.Types.{string_type}
use Rattle.scopes.specs.Kinds.{Kinds, type_number}
use Rattle.offers.specs.declared.member.Member.{Member}
use Rattle.offers.specs.declared.member.Face.{Face}
use Rattle.scopes.specs.Binders.{form_text}
use Rattle.scopes.specs.Declarations as declarations
use Rattle.scopes.specs.Declarations.{member_decl, simple_decl, face_decl, decls_of}
use Rattle.hole_texts.proofs.Pairs.{Each2, all-on, all-append, all-map, all-both}
use Rattle.hole_texts.proofs.Spelled.{IsName}
use Rattle.hole_texts.proofs.Left.{IsLeft, IsKnown, IsSome, five-left}
use Rattle.hole_texts.proofs.Faces.{HaveNames}

-- a site of a hole, and the known classes
pub record IsSite (v : Scene) : Type 0 where
  pub word : v.word ≡ is_identifier
  pub named : AllByRecursion (λ l. is_identifier l.name ≡ true) v.site.locals
  pub once : Each2 HaveNames v.site.locals
  pub known : HasEachOnce v.known
  pub class : v.site.class < length v.unit.classes

-- `this`, a variable, a literal, a lambda
pub record IsThis (v : Scene) (ks : Kinds) (d : Decl) : Type 0 where
  pub form : d.form ≡ This
  pub result : d.result ≡ type_number ks (of_class (edited v))
  pub plain : d.crowded ≡ false

pub record IsLocal (v : Scene) (d : Decl) : Type 0 where
  pub text : List ℕ
  pub form : d.form ≡ Name text
  pub taken : is_among (scope_names v) text ≡ true
  pub name : IsName text
  pub plain : d.crowded ≡ false

pub record IsLiteral (d : Decl) : Type 0 where
  pub text : List ℕ
  pub form : d.form ≡ Name text
  pub is : has literals text ≡ true
  pub plain : d.crowded ≡ false

pub record IsLambda (v : Scene) (d : Decl) : Type 0 where
  pub text : List ℕ
  pub name : List ℕ
  pub form : d.form ≡ Lambda text
  pub utf8 : IsUtf8 text
  pub spelled : class_spelling v name ≡ Some text
  pub plain : d.crowded ≡ false

-- a member that is left, with the text of its form
pub record IsShown (v : Scene) (ks : Kinds) (ms : List Member) (m : Member) : Type 0 where
  pub left : IsLeft v ks ms m
  pub utf8 : IsUtf8 (form_text (member_decl v ks ms m).form)

pub record IsMade (v : Scene) (ks : Kinds) (ms : List Member) (d : Decl) : Type 0 where
  pub member : Member
  pub shown : IsShown v ks ms member
  pub is : d ≡ member_decl v ks ms member

pub data Origin (v : Scene) (ks : Kinds) (ms : List Member) (d : Decl) : Type 0 where
  this : IsThis v ks d → Origin v ks ms d
  local : IsLocal v d → Origin v ks ms d
  literal : IsLiteral d → Origin v ks ms d
  made : IsMade v ks ms d → Origin v ks ms d
  lambda : IsLambda v d → Origin v ks ms d

abbrev pub HasText : Decl → Type 0
HasText d = IsUtf8 (form_text d.form)

-- the parts of the declarations
abbrev pub this_decls : Scene → Kinds → List Decl
this_decls v ks = if v.site.is_static then [] else simple_decl ks This (of_class (edited v)) v.weights.local ∷ []

abbrev pub local_decl : Scene → Kinds → Local → Decl
local_decl v ks l = simple_decl ks (Name l.name) (denoted v l.kind) v.weights.local

abbrev pub local_decls : Scene → Kinds → List Decl
local_decls v ks = map (local_decl v ks) v.site.locals

abbrev pub member_decls : Scene → Kinds → List Member → List Decl
member_decls v ks ms = map (member_decl v ks ms) (after_five v ks.types ms)

abbrev pub face_decls : Scene → Kinds → List Face → List Decl
face_decls v ks fs = map (face_decl v ks) fs

pub all-left : {A : Type 0} (P : A → Type 0) (xs ys : List A) → AllByRecursion P (xs ++ ys) → AllByRecursion P xs
all-left P [] ys h = tt
all-left P (x ∷ xs) ys h = (h.0, all-left P xs ys h.1)

pub all-right : {A : Type 0} (P : A → Type 0) (xs ys : List A) → AllByRecursion P (xs ++ ys) → AllByRecursion P ys
all-right P [] ys h = h
all-right P (x ∷ xs) ys h = all-right P xs ys h.1

pub all-unmap : {A B : Type 0} (Q : B → Type 0) (f : A → B) (xs : List A) → AllByRecursion Q (map f xs) → AllByRecursion (λ x. Q (f x)) xs
all-unmap Q f [] h = tt
all-unmap Q f (x ∷ xs) h = (h.0, all-unmap Q f xs h.1)

pub all-from : {A : Type 0} (P : A → Type 0) (xs : List A) → ((i : ℕ) (x : A) → slice_get xs i ≡ Some x → P x) → AllByRecursion P xs
all-from P [] f = tt
all-from P (x ∷ xs) f = (f zero x refl, all-from P xs (λ i y e. f (suc i) y e))

-- each of them has a text
pub record HaveTexts (v : Scene) (ks : Kinds) (ms : List Member) (fs : List Face) : Type 0 where
  pub locals : AllByRecursion (λ l. HasText (local_decl v ks l)) v.site.locals
  pub members : AllByRecursion (λ m. HasText (member_decl v ks ms m)) (after_five v ks.types ms)
  pub faces : AllByRecursion (λ f. HasText (face_decl v ks f)) fs

pub have-texts : (v : Scene) (ks : Kinds) (ms : List Member) (fs : List Face) → AllByRecursion HasText (decls_of v ks ms fs) → HaveTexts v ks ms fs
unfolding decls_of
have-texts v ks ms fs h =
    let upper = all-left HasText (((this_decls v ks ++ local_decls v ks) ++ declarations.literals v ks) ++ member_decls v ks ms) (face_decls v ks fs) h in
    let site = all-left HasText ((this_decls v ks ++ local_decls v ks) ++ declarations.literals v ks) (member_decls v ks ms) upper in
    record {
      locals = all-unmap HasText (local_decl v ks) v.site.locals (all-right HasText (this_decls v ks) (local_decls v ks) (all-left HasText (this_decls v ks ++ local_decls v ks) (declarations.literals v ks) site));
      members = all-unmap HasText (member_decl v ks ms) (after_five v ks.types ms) (all-right HasText ((this_decls v ks ++ local_decls v ks) ++ declarations.literals v ks) (member_decls v ks ms) upper);
      faces = all-unmap HasText (face_decl v ks) fs (all-right HasText (((this_decls v ks ++ local_decls v ks) ++ declarations.literals v ks) ++ member_decls v ks ms) (face_decls v ks fs) h);
    }

-- the origin of each
these-if : (b : Bool) (v : Scene) (ks : Kinds) → AllByRecursion (IsThis v ks) (if b then [] else simple_decl ks This (of_class (edited v)) v.weights.local ∷ [])
these-if true v ks = tt
these-if false v ks = (record { form = refl; result = refl; plain = refl }, tt)

pub these : (v : Scene) (ks : Kinds) → AllByRecursion (IsThis v ks) (this_decls v ks)
these v ks = these-if v.site.is_static v ks

named-among : (ls : List Local) → AllByRecursion (λ l. is_among (map (λ k. k.name) ls) l.name ≡ true) ls
named-among [] = tt
named-among (l ∷ ls) = (
  or_left (bytes_eq l.name l.name) (is_among (map (λ k. k.name) ls) l.name) ((bytes_eq-Decides l.name l.name).1 refl),
  all-on (λ k. is_among (map (λ x. x.name) ls) k.name ≡ true) (λ k. is_among (map (λ x. x.name) (l ∷ ls)) k.name ≡ true) (λ k e. or_right (bytes_eq l.name k.name) (is_among (map (λ x. x.name) ls) k.name) e) ls (named-among ls),
)

pub among-left : (xs ys : List (List ℕ)) (w : List ℕ) → is_among xs w ≡ true → is_among (xs ++ ys) w ≡ true
among-left xs ys w e = list_any-append (λ t. bytes_eq t w) xs ys ∙ or_left (is_among xs w) (is_among ys w) e

pub among-right : (xs ys : List (List ℕ)) (w : List ℕ) → is_among ys w ≡ true → is_among (xs ++ ys) w ≡ true
among-right xs ys w e = list_any-append (λ t. bytes_eq t w) xs ys ∙ or_right (is_among xs w) (is_among ys w) e

pub locals : (v : Scene) (ks : Kinds) → IsSite v → AllByRecursion (λ l. HasText (local_decl v ks l)) v.site.locals → AllByRecursion (IsLocal v) (local_decls v ks)
locals v ks s t =
    all-map (IsLocal v) (local_decl v ks) v.site.locals
    (all-on (λ l. ((is_identifier l.name ≡ true) × HasText (local_decl v ks l)) × (is_among (map (λ k. k.name) v.site.locals) l.name ≡ true)) (λ l. IsLocal v (local_decl v ks l))
    (λ l k. record { text = l.name; form = refl; taken = among-left (map (λ x. x.name) v.site.locals) v.site.hidden l.name k.1; name = record { utf8 = k.0.1; identifier = k.0.0 }; plain = refl })
    v.site.locals
    (all-both (λ l. (is_identifier l.name ≡ true) × HasText (local_decl v ks l)) (λ l. is_among (map (λ k. k.name) v.site.locals) l.name ≡ true) v.site.locals
    (all-both (λ l. is_identifier l.name ≡ true) (λ l. HasText (local_decl v ks l)) v.site.locals s.named t) (named-among v.site.locals)))

one-literal : (ks : Kinds) (w : List ℕ) (t : Erased) (weight : ℕ) → has literals w ≡ true → IsLiteral (simple_decl ks (Name w) t weight)
one-literal ks w t weight e = record { text = w; form = refl; is = e; plain = refl }

is_zero : has literals (codes "0") ≡ true
unfolding has
is_zero = refl

is_true : has literals (codes "true") ≡ true
unfolding has
is_true = refl

is_false : has literals (codes "false") ≡ true
unfolding has
is_false = refl

is_empty : has literals (34 ∷ 34 ∷ []) ≡ true
unfolding has
is_empty = refl

pub literal-decls : (v : Scene) (ks : Kinds) → AllByRecursion IsLiteral (declarations.literals v ks)
literal-decls v ks = (
  one-literal ks (codes "0") (of_base base.Int) v.weights.literal is_zero,
  (
    one-literal ks (codes "true") (of_base base.Boolean) v.weights.literal is_true,
    (
      one-literal ks (codes "false") (of_base base.Boolean) v.weights.literal is_false,
      (one-literal ks (34 ∷ 34 ∷ []) string_type v.weights.literal is_empty, tt),
    ),
  ),
)

pub shown : (v : Scene) (ks : Kinds) (ms : List Member) → AllByRecursion (IsKnown v ks) ms → AllByRecursion (λ m. HasText (member_decl v ks ms m)) (after_five v ks.types ms) → AllByRecursion (IsShown v ks ms) (after_five v ks.types ms)
shown v ks ms h t =
    all-on (λ m. IsLeft v ks ms m × HasText (member_decl v ks ms m)) (IsShown v ks ms) (λ m k. record { left = k.0; utf8 = k.1 }) (after_five v ks.types ms)
    (all-both (IsLeft v ks ms) (λ m. HasText (member_decl v ks ms m)) (after_five v ks.types ms) (five-left v ks ms h) t)

pub made-decls : (v : Scene) (ks : Kinds) (ms : List Member) → AllByRecursion (IsShown v ks ms) (after_five v ks.types ms) → AllByRecursion (IsMade v ks ms) (member_decls v ks ms)
made-decls v ks ms h = all-map (IsMade v ks ms) (member_decl v ks ms) (after_five v ks.types ms) (all-on (IsShown v ks ms) (λ m. IsMade v ks ms (member_decl v ks ms m)) (λ m k. record { member = m; shown = k; is = refl }) (after_five v ks.types ms) h)

one-lambda : (v : Scene) (ks : Kinds) (f : Face) → IsSome (class_spelling v f.name) → HasText (face_decl v ks f) → IsLambda v (face_decl v ks f)
unfolding face_decl
one-lambda v ks f h u =
    let same : unwrap_or (class_spelling v f.name) [] ≡ h.text = ap (λ o. unwrap_or o []) h.is in
    record { text = h.text; name = f.name; form = ap Lambda same; utf8 = subst IsUtf8 same u; spelled = h.is; plain = refl }

pub lambdas : (v : Scene) (ks : Kinds) (fs : List Face) → AllByRecursion (λ f. IsSome (class_spelling v f.name)) fs → AllByRecursion (λ f. HasText (face_decl v ks f)) fs → AllByRecursion (IsLambda v) (face_decls v ks fs)
lambdas v ks fs h t =
    all-map (IsLambda v) (face_decl v ks) fs (all-on (λ f. IsSome (class_spelling v f.name) × HasText (face_decl v ks f)) (λ f. IsLambda v (face_decl v ks f)) (λ f k. one-lambda v ks f k.0 k.1) fs
    (all-both (λ f. IsSome (class_spelling v f.name)) (λ f. HasText (face_decl v ks f)) fs h t))

pub origins : (v : Scene) (ks : Kinds) (ms : List Member) (fs : List Face) → IsSite v → AllByRecursion (IsKnown v ks) ms → AllByRecursion (λ f. IsSome (class_spelling v f.name)) fs → HaveTexts v ks ms fs → AllByRecursion (Origin v ks ms) (decls_of v ks ms fs)
unfolding decls_of
origins v ks ms fs s known spelled texts =
    let O = Origin v ks ms in
    all-append O (((this_decls v ks ++ local_decls v ks) ++ declarations.literals v ks) ++ member_decls v ks ms) (face_decls v ks fs)
    (all-append O ((this_decls v ks ++ local_decls v ks) ++ declarations.literals v ks) (member_decls v ks ms)
    (all-append O (this_decls v ks ++ local_decls v ks) (declarations.literals v ks)
    (all-append O (this_decls v ks) (local_decls v ks)
    (all-on (IsThis v ks) O (λ d h. this h) (this_decls v ks) (these v ks))
    (all-on (IsLocal v) O (λ d h. local h) (local_decls v ks) (locals v ks s texts.locals)))
    (all-on IsLiteral O (λ d h. literal h) (declarations.literals v ks) (literal-decls v ks)))
    (all-on (IsMade v ks ms) O (λ d h. made h) (member_decls v ks ms) (made-decls v ks ms (shown v ks ms known texts.members))))
    (all-on (IsLambda v) O (λ d h. lambda h) (face_decls v ks fs) (lambdas v ks fs spelled texts.faces))
