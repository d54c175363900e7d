-- The forms, the texts and the places of members.
use Rattle.std.proofs.Common.{◌≡◌, ◌∙◌, inl, inr, sym, ap, ap₂, subst, refl, ℕ, ◌||◌, Bool, true, false, List, [], ◌∷◌, map, get_or, unwrap_or, lit<, IsUtf8, None, Some}
use Rattle.std.specs.List.{AllByRecursion}
use Rattle.std.proofs.lemmas.Bool.{or_left, or_right}
use Rattle.type_names.specs.declared.kinds.Erased.{Erased}
use Rattle.terms.specs.Apart.{Wants}
use Rattle.terms.specs.declared.parts.Arg.{Arg}
use Rattle.terms.specs.declared.parts.Arg.TheVariants.{Plain}
use Rattle.terms.specs.declared.parts.Form.{Form}
use Rattle.terms.specs.declared.parts.Form.TheVariants.{Name, Call, New, Method, Field}
use Rattle.java_units.specs.Identifiers.{is_identifier}
use Rattle.java_shapes.proofs.WordFacts.{last_same}
use Rattle.offers.specs.Scenes.{Scene, of_class, is_among}
use Rattle.offers.specs.Spellings.{class_spelling}
use Rattle.offers.specs.declared.member.Kind.{Kind}
use Rattle.offers.specs.declared.member.Kind.TheVariants as kind
use Rattle.offers.specs.declared.member.Member.{Member}
use Rattle.offers.specs.Candidates.{same_kind, is_static}
use Rattle.offers.specs.Omissions.{is_crowded, needs_owner, owner_text, static_text, scope_names}
use Rattle.scopes.specs.Kinds.{Kinds, listed, type_number}
use Rattle.scopes.specs.Declarations.{form_by, wants_by, member_decl}
use Rattle.scopes.proofs.PairLaws.{type-at}
use Rattle.scopes.proofs.Numbered.{Has}
use Rattle.hole_texts.proofs.Words.{IsCut, cut-utf8}
use Rattle.hole_texts.proofs.Spelled.{IsName, IsSpelling, class-spells, one-class, dotless}
use Rattle.hole_texts.proofs.Left.{IsLeft, Stands, owner-spelled}
use Rattle.hole_texts.proofs.Origins.{IsSite}

-- what a member's form is
pub data Shape (v : Scene) (m : Member) (f : Form) (k : Kind) (s : Bool) : Type 0 where
  static_field : k ≡ kind.Field → s ≡ true → f ≡ Name (static_text v m) → Shape v m f k s
  own_field : k ≡ kind.Field → s ≡ false → f ≡ Field m.name (is_among (scope_names v) m.name) → Shape v m f k s
  static_method : k ≡ kind.Method → s ≡ true → f ≡ Call (static_text v m) → Shape v m f k s
  own_method : k ≡ kind.Method → s ≡ false → f ≡ Method m.name → Shape v m f k s
  maker : k ≡ kind.Constructor → f ≡ New (owner_text v m) → Shape v m f k s

shape-by : (v : Scene) (m : Member) (k : Kind) (s : Bool) → Shape v m (form_by v m k s) k s
shape-by v m kind.Field true = static_field refl refl refl
shape-by v m kind.Field false = own_field refl refl refl
shape-by v m kind.Method true = static_method refl refl refl
shape-by v m kind.Method false = own_method refl refl refl
shape-by v m kind.Constructor s = maker refl refl

pub shape : (v : Scene) (ks : Kinds) (ms : List Member) (m : Member) → Shape v m (member_decl v ks ms m).form m.kind (is_static m)
unfolding member_decl
shape v ks ms m = shape-by v m m.kind (is_static m)

-- what it wants
abbrev pub arg_of : Kinds → Erased → Arg
arg_of ks t = Plain (type_number ks t)

pub args-are : (v : Scene) (ks : Kinds) (ms : List Member) (m : Member) → (member_decl v ks ms m).args ≡ map (arg_of ks) (wants_by m m.kind (is_static m))
unfolding member_decl
args-are v ks ms m = refl

pub crowded-is : (v : Scene) (ks : Kinds) (ms : List Member) (m : Member) → (member_decl v ks ms m).crowded ≡ is_crowded v ks.types ms m
unfolding member_decl
crowded-is v ks ms m = refl

pub own-wants : (m : Member) → m.kind ≡ kind.Field → is_static m ≡ false → wants_by m m.kind (is_static m) ≡ of_class m.owner ∷ []
own-wants m k s = ap₂ (λ x y. wants_by m x y) k s

pub call-wants : (m : Member) → m.kind ≡ kind.Method → is_static m ≡ true → wants_by m m.kind (is_static m) ≡ m.params
call-wants m k s = ap₂ (λ x y. wants_by m x y) k s

pub method-wants : (m : Member) → m.kind ≡ kind.Method → is_static m ≡ false → wants_by m m.kind (is_static m) ≡ of_class m.owner ∷ m.params
method-wants m k s = ap₂ (λ x y. wants_by m x y) k s

pub maker-wants : (m : Member) → m.kind ≡ kind.Constructor → wants_by m m.kind (is_static m) ≡ m.params
maker-wants m k = ap (λ x. wants_by m x (is_static m)) k

-- numbers tell types
stands-has : (ks : Kinds) (t : Erased) → Stands ks t → Has ks.types t
unfolding Has
stands-has ks t h = h

pub number-get : (ks : Kinds) (t : Erased) → Stands ks t → get_or (listed ks) (type_number ks t) None ≡ Some t
number-get ks t h = type-at ks t (stands-has ks t h)

pub some-one : (t u : Erased) → Some t ≡ Some u → t ≡ u
some-one t u e = cc

pub same-number : (ks : Kinds) (t u : Erased) → Stands ks t → Stands ks u → type_number ks t ≡ type_number ks u → t ≡ u
same-number ks t u h k e = some-one t u (sym (number-get ks t h) ∙ ap (λ n. get_or (listed ks) n None) e ∙ number-get ks u k)

plain-same : (a b : ℕ) → Plain a ≡ Plain b → a ≡ b
plain-same a b e = cc

pub same-args : (ks : Kinds) (xs ys : List Erased) → AllByRecursion (Stands ks) xs → AllByRecursion (Stands ks) ys → map (arg_of ks) xs ≡ map (arg_of ks) ys → xs ≡ ys
same-args ks [] [] h k e = refl
same-args ks [] (y ∷ ys) h k e = absurd cc
same-args ks (x ∷ xs) [] h k e = absurd cc
same-args ks (x ∷ xs) (y ∷ ys) h k e =
    let heads : arg_of ks x ≡ arg_of ks y = cc in
    let tails : map (arg_of ks) xs ≡ map (arg_of ks) ys = cc in
    ap₂ (λ a b. a ∷ b) (same-number ks x y h.0 k.0 (plain-same (type_number ks x) (type_number ks y) heads)) (same-args ks xs ys h.1 k.1 tails)

-- a type that is wanted, and what holds of each
pub record IsWanted (P : Erased → Type 0) (ks : Kinds) (a : ℕ) : Type 0 where
  pub kind : Erased
  pub holds : P kind
  pub is : type_number ks kind ≡ a

pub wanted-one : (P : Erased → Type 0) (ks : Kinds) (xs : List Erased) (a : ℕ) → AllByRecursion P xs → Wants (map (arg_of ks) xs) a → IsWanted P ks a
wanted-one P ks [] a h w = absurd w
wanted-one P ks (x ∷ xs) a h (inl e) = record { kind = x; holds = h.0; is = e }
wanted-one P ks (x ∷ xs) a h (inr w) = wanted-one P ks xs a h.1 w

-- a static member, or one that makes, has a spelled owner
pub record HasOwner (v : Scene) (m : Member) (text : List ℕ) : Type 0 where
  pub spelled : class_spelling v m.owner ≡ Some text
  pub is : owner_text v m ≡ text

pub owner-has : (v : Scene) (ks : Kinds) (ms : List Member) (m : Member) → IsLeft v ks ms m → needs_owner m ≡ true → HasOwner v m (owner_text v m)
owner-has v ks ms m h n =
    let k = owner-spelled v (is_crowded v ks.types ms m) m h.written (or_left (needs_owner m) (is_crowded v ks.types ms m) n) in
    let same : owner_text v m ≡ k.text = ap (λ o. unwrap_or o []) k.is in
    record { spelled = k.is ∙ ap Some (sym same); is = refl }

pub needs-static : (m : Member) → is_static m ≡ true → needs_owner m ≡ true
needs-static m e = or_left (is_static m) (same_kind m.kind kind.Constructor) e

pub needs-maker : (m : Member) → m.kind ≡ kind.Constructor → needs_owner m ≡ true
needs-maker m e = or_right (is_static m) (same_kind m.kind kind.Constructor) (ap (λ k. same_kind k kind.Constructor) e)

-- names
named-by : (v : Scene) (m : Member) (k : Kind) → (same_kind k kind.Constructor || v.word m.name) ≡ true → (k ≡ kind.Constructor → ⊥) → v.word m.name ≡ true
named-by v m kind.Field e f = e
named-by v m kind.Method e f = e
named-by v m kind.Constructor e f = absurd (f refl)

pub name-word : (v : Scene) (ks : Kinds) (ms : List Member) (m : Member) → IsSite v → IsLeft v ks ms m → (m.kind ≡ kind.Constructor → ⊥) → is_identifier m.name ≡ true
name-word v ks ms m s h f = subst (λ (w : List ℕ → Bool). w m.name ≡ true) s.word (named-by v m m.kind h.member.named f)

pub field-made : kind.Field ≡ kind.Constructor → ⊥
field-made e = absurd cc

pub method-made : kind.Method ≡ kind.Constructor → ⊥
method-made e = absurd cc

-- the two parts of a static member's text
pub record IsStatic (v : Scene) (m : Member) : Type 0 where
  pub name : IsName m.name
  pub owner : IsUtf8 (owner_text v m)
  pub spelled : IsSpelling v m.owner (owner_text v m)

pub static-parts : (v : Scene) (ks : Kinds) (ms : List Member) (m : Member) → IsSite v → IsLeft v ks ms m → (m.kind ≡ kind.Constructor → ⊥) → is_static m ≡ true → IsUtf8 (static_text v m) → IsStatic v m
static-parts v ks ms m s h f e u =
    let c : IsCut (owner_text v m) m.name = cut-utf8 46 (lit< tt) (owner_text v m) m.name u in
    record { name = record { utf8 = c.rest; identifier = name-word v ks ms m s h f }; owner = c.front; spelled = class-spells v m.owner (owner_text v m) (owner-has v ks ms m h (needs-static m e)).spelled }

-- of two with one text
pub same-static : (v : Scene) (m n : Member) → IsSite v → IsStatic v m → IsStatic v n → static_text v m ≡ static_text v n → (m.owner ≡ n.owner) × (m.name ≡ n.name)
same-static v m n s a b e =
    let k = last_same 46 (owner_text v m) (owner_text v n) m.name n.name (dotless m.name a.name) (dotless n.name b.name) e in
    (one-class v m.owner n.owner (owner_text v m) s.word a.owner a.spelled (subst (IsSpelling v n.owner) (sym k.0) b.spelled), k.1)
