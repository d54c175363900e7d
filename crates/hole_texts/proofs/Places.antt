-- Declarations at two places of an environment are unlike.
use Rattle.std.proofs.Common.{◌≡◌, ◌∙◌, inl, inr, sym, ap, subst, refl, ℕ, if◌then◌else◌, Bool, true, false, List, [], ◌∷◌, ◌++◌, codes, bytes_eq, unwrap_or, IsUtf8, Some}
use Rattle.std.specs.List.{AllByRecursion}
use Rattle.std.proofs.lemmas.Bool.{both_ways}
use Rattle.std.proofs.lemmas.Slice.Eq.{bytes_eq-Decides}
use Rattle.type_names.specs.declared.kinds.Base.TheVariants as base
use Rattle.type_names.specs.declared.kinds.Erased.{Erased}
use Rattle.terms.specs.declared.parts.Decl.{Decl}
use Rattle.terms.specs.declared.parts.Form.{Form}
use Rattle.terms.specs.declared.parts.Form.TheVariants.{Name, This, Lambda}
use Rattle.terms.specs.declared.parts.Parts.{Parts}
use Rattle.java_units.specs.Signs.{has, reserved}
use Rattle.java_units.specs.Identifiers.{is_identifier, is_ascii_identifier}
use Rattle.java_units.proofs.IdentifierLaws.{ascii_identifiers}
use Rattle.java_shapes.specs.Words.{literals}
use Rattle.java_shapes.proofs.WordFacts.{Lacks, lacks_not, has_cases, has_none, literal_word}
use Rattle.offers.specs.Scenes.{Scene, edited, of_class}
use Rattle.offers.specs.Spellings.{class_spelling}
use Rattle.offers.specs.declared.member.Member.{Member}
use Rattle.offers.specs.declared.member.Face.{Face}
use Rattle.offers.specs.Candidates.{is_static}
use Rattle.offers.specs.Omissions.{after_five, owner_text}
use Rattle.offers.specs.Functional.{of_base}
use Rattle.offers.specs.Types.{string_type}
use Rattle.scopes.specs.Declarations as declarations
use Rattle.scopes.specs.Declarations.{member_decl, simple_decl, face_decl, decls_of}
use Rattle.scopes.specs.Kinds.{Kinds}
use Rattle.scopes.specs.Environments.{parts_by}
use Rattle.hole_texts.proofs.Pairs.{Each2, all-on, all-append, all-both, across-on, each-append, each-map, each-on}
use Rattle.hole_texts.proofs.Spelled.{IsSpelling, class-spells, one-class, dotless}
use Rattle.hole_texts.proofs.Members.{Differ}
use Rattle.hole_texts.proofs.Left.{IsKnown, IsSome, five-differ}
use Rattle.hole_texts.proofs.Faces.{HaveNames, HaveOwnNames}
use Rattle.hole_texts.proofs.Origins.{IsSite, IsThis, IsLocal, IsLiteral, IsLambda, IsShown, IsMade, HasText, HaveTexts, this_decls, local_decl, local_decls, member_decls, face_decls, these, locals, literal-decls, shown, made-decls, lambdas}
use Rattle.hole_texts.proofs.Shown.{shape}
use Rattle.hole_texts.proofs.Unlike.{AreUnlike, unlike-turn, this-unlike, name-unlike, lambda-unlike}
use Rattle.hole_texts.proofs.Alike.{not-this, not-lambda, name-shape, members-unlike}

-- literals are no identifiers
zero_no : is_identifier (codes "0") ≡ false
unfolding is_ascii_identifier has reserved
zero_no = ascii_identifiers (codes "0") refl

true_no : is_identifier (codes "true") ≡ false
unfolding is_ascii_identifier has reserved
true_no = ascii_identifiers (codes "true") refl

false_no : is_identifier (codes "false") ≡ false
unfolding is_ascii_identifier has reserved
false_no = ascii_identifiers (codes "false") refl

empty_no : is_identifier (34 ∷ 34 ∷ []) ≡ false
unfolding is_ascii_identifier has reserved
empty_no = ascii_identifiers (34 ∷ 34 ∷ []) refl

is-other : (x w : List ℕ) → is_identifier x ≡ false → x ≡ w → is_identifier w ≡ true → ⊥
is-other x w e q h = both_ways (is_identifier w) (ap is_identifier (sym q) ∙ e) h

pub literal-no-name : (w : List ℕ) → has literals w ≡ true → is_identifier w ≡ true → ⊥
literal-no-name w h n = elim (has_cases (codes "0") (codes "true" ∷ codes "false" ∷ (34 ∷ 34 ∷ []) ∷ []) w h) [
  | inl e ↦ is-other (codes "0") w zero_no e n
  | inr h1 ↦ (elim (has_cases (codes "true") (codes "false" ∷ (34 ∷ 34 ∷ []) ∷ []) w h1) [
    | inl e ↦ is-other (codes "true") w true_no e n
    | inr h2 ↦ (elim (has_cases (codes "false") ((34 ∷ 34 ∷ []) ∷ []) w h2) [
      | inl e ↦ is-other (codes "false") w false_no e n
      | inr h3 ↦ (elim (has_cases (34 ∷ 34 ∷ []) [] w h3) [
        | inl e ↦ is-other (34 ∷ 34 ∷ []) w empty_no e n
        | inr h4 ↦ absurd (has_none w h4)
      ])
    ])
  ])
]

-- names of different texts
names-differ : (s t : List ℕ) → (s ≡ t → ⊥) → Name t ≡ Name s → ⊥
names-differ s t f e = let q : t ≡ s = cc in f (sym q)

texts-differ : (s t : List ℕ) → bytes_eq s t ≡ false → s ≡ t → ⊥
texts-differ s t e q = both_ways (bytes_eq s t) e ((bytes_eq-Decides s t).1 q)

two-literals : (g : Parts) (ks : Kinds) (s t : List ℕ) (a b : Erased) (w : ℕ) → bytes_eq s t ≡ false → AreUnlike g (simple_decl ks (Name s) a w) (simple_decl ks (Name t) b w)
two-literals g ks s t a b w e = name-unlike g (simple_decl ks (Name s) a w) (simple_decl ks (Name t) b w) s refl (names-differ s t (texts-differ s t e))

each-literal : (g : Parts) (v : Scene) (ks : Kinds) → Each2 (AreUnlike g) (declarations.literals v ks)
unfolding Each2
each-literal g v ks =
    let w = v.weights.literal in (
      (two-literals g ks (codes "0") (codes "true") (of_base base.Int) (of_base base.Boolean) w refl, (two-literals g ks (codes "0") (codes "false") (of_base base.Int) (of_base base.Boolean) w refl, (two-literals g ks (codes "0") (34 ∷ 34 ∷ []) (of_base base.Int) string_type w refl, tt))),
      (
        (two-literals g ks (codes "true") (codes "false") (of_base base.Boolean) (of_base base.Boolean) w refl, (two-literals g ks (codes "true") (34 ∷ 34 ∷ []) (of_base base.Boolean) string_type w refl, tt)),
        (
          (two-literals g ks (codes "false") (34 ∷ 34 ∷ []) (of_base base.Boolean) string_type w refl, tt),
          (tt, tt),
        ),
      ),
    )

each-this : (g : Parts) (b : Bool) (d : Decl) → Each2 (AreUnlike g) (if b then [] else d ∷ [])
unfolding Each2
each-this g true d = tt
each-this g false d = (tt, tt)

each-local : (g : Parts) (v : Scene) (ks : Kinds) → IsSite v → Each2 (AreUnlike g) (local_decls v ks)
each-local g v ks s =
    each-map (AreUnlike g) (local_decl v ks) v.site.locals
    (each-on (λ l. is_identifier l.name ≡ true) HaveNames (λ k l. AreUnlike g (local_decl v ks k) (local_decl v ks l))
    (λ k l a b n. name-unlike g (local_decl v ks k) (local_decl v ks l) k.name refl (names-differ k.name l.name n)) v.site.locals s.named s.once)

each-member : (v : Scene) (ks : Kinds) (ms : List Member) (ds : List Decl) (limit depth : ℕ) → IsSite v → AllByRecursion (IsShown v ks ms) (after_five v ks.types ms) → Each2 Differ ms → Each2 (AreUnlike (parts_by v ks ds limit depth)) (member_decls v ks ms)
each-member v ks ms ds limit depth s h d =
    each-map (AreUnlike (parts_by v ks ds limit depth)) (member_decl v ks ms) (after_five v ks.types ms)
    (each-on (IsShown v ks ms) Differ (λ m n. AreUnlike (parts_by v ks ds limit depth) (member_decl v ks ms m) (member_decl v ks ms n))
    (λ m n a b k. members-unlike v ks ms ds limit depth m n (record { site = s; first = a; second = b; differ = k })) (after_five v ks.types ms) h (five-differ v ks ms d))

-- a lambda of a functional interface
record IsFace (v : Scene) (ks : Kinds) (f : Face) : Type 0 where
  pub text : List ℕ
  pub form : (face_decl v ks f).form ≡ Lambda text
  pub utf8 : IsUtf8 text
  pub spelled : class_spelling v f.name ≡ Some text

face : (v : Scene) (ks : Kinds) (f : Face) → IsSome (class_spelling v f.name) × HasText (face_decl v ks f) → IsFace v ks f
unfolding face_decl
face v ks f k =
    let same : unwrap_or (class_spelling v f.name) [] ≡ k.0.text = ap (λ o. unwrap_or o []) k.0.is in
    record { text = k.0.text; form = ap Lambda same; utf8 = subst IsUtf8 same k.1; spelled = k.0.is }

two-faces : (g : Parts) (v : Scene) (ks : Kinds) (f h : Face) → IsSite v → IsFace v ks f → IsFace v ks h → HaveOwnNames f h → AreUnlike g (face_decl v ks f) (face_decl v ks h)
two-faces g v ks f h s a b n =
    lambda-unlike g (face_decl v ks f) (face_decl v ks h) a.text a.form
    (λ e. let q : b.text ≡ a.text = lambda-text (face_decl v ks h).form b.text a.text b.form e in
    n (one-class v f.name h.name a.text s.word a.utf8 (class-spells v f.name a.text a.spelled) (subst (IsSpelling v h.name) q (class-spells v h.name b.text b.spelled))))
  where
    lambda-text : (f : Form) (s t : List ℕ) → f ≡ Lambda s → f ≡ Lambda t → s ≡ t
    lambda-text f s t x y = cc

each-face : (g : Parts) (v : Scene) (ks : Kinds) (fs : List Face) → IsSite v → AllByRecursion (λ f. IsSome (class_spelling v f.name)) fs → AllByRecursion (λ f. HasText (face_decl v ks f)) fs → Each2 HaveOwnNames fs → Each2 (AreUnlike g) (face_decls v ks fs)
each-face g v ks fs s h t d =
    each-map (AreUnlike g) (face_decl v ks) fs
    (each-on (IsFace v ks) HaveOwnNames (λ f k. AreUnlike g (face_decl v ks f) (face_decl v ks k)) (λ f k a b n. two-faces g v ks f k s a b n) fs
    (all-on (λ f. IsSome (class_spelling v f.name) × HasText (face_decl v ks f)) (IsFace v ks) (face v ks) fs (all-both (λ f. IsSome (class_spelling v f.name)) (λ f. HasText (face_decl v ks f)) fs h t)) d)

-- declarations of two parts
this-no-name : (f : Form) (s : List ℕ) → f ≡ Name s → f ≡ This → ⊥
this-no-name f s a b = cc

this-no-lambda : (f : Form) (s : List ℕ) → f ≡ Lambda s → f ≡ This → ⊥
this-no-lambda f s a b = cc

name-no-lambda : (f : Form) (s t : List ℕ) → f ≡ Lambda s → f ≡ Name t → ⊥
name-no-lambda f s t a b = cc

name-text : (f : Form) (s t : List ℕ) → f ≡ Name s → f ≡ Name t → s ≡ t
name-text f s t a b = cc

this-local : (g : Parts) (v : Scene) (ks : Kinds) (c d : Decl) → IsThis v ks c → IsLocal v d → AreUnlike g c d
this-local g v ks c d h k = this-unlike g c d h.form (λ e. this-no-name d.form k.text k.form e)

this-literal : (g : Parts) (v : Scene) (ks : Kinds) (c d : Decl) → IsThis v ks c → IsLiteral d → AreUnlike g c d
this-literal g v ks c d h k = this-unlike g c d h.form (λ e. this-no-name d.form k.text k.form e)

this-made : (g : Parts) (v : Scene) (ks : Kinds) (ms : List Member) (c d : Decl) → IsThis v ks c → IsMade v ks ms d → AreUnlike g c d
this-made g v ks ms c d h k = this-unlike g c d h.form (λ e. not-this v k.member (member_decl v ks ms k.member).form k.member.kind (is_static k.member) (shape v ks ms k.member) (sym (ap (λ x. x.form) k.is) ∙ e))

this-lambda : (g : Parts) (v : Scene) (ks : Kinds) (c d : Decl) → IsThis v ks c → IsLambda v d → AreUnlike g c d
this-lambda g v ks c d h k = this-unlike g c d h.form (λ e. this-no-lambda d.form k.text k.form e)

local-literal : (g : Parts) (v : Scene) (c d : Decl) → IsLocal v c → IsLiteral d → AreUnlike g c d
local-literal g v c d h k = name-unlike g c d h.text h.form (λ e. literal-no-name h.text (subst (λ w. has literals w ≡ true) (name-text d.form k.text h.text k.form e) k.is) h.name.identifier)

-- a name without a dot is no static field
named-made : (g : Parts) (v : Scene) (ks : Kinds) (ms : List Member) (c d : Decl) (t : List ℕ) → c.form ≡ Name t → Lacks 46 t → IsMade v ks ms d → AreUnlike g c d
named-made g v ks ms c d t e l k =
    name-unlike g c d t e (λ q. lacks_not 46 t (owner_text v k.member) k.member.name l (name-shape v k.member (member_decl v ks ms k.member).form k.member.kind (is_static k.member) t (shape v ks ms k.member) (sym (ap (λ x. x.form) k.is) ∙ q)).is)

local-made : (g : Parts) (v : Scene) (ks : Kinds) (ms : List Member) (c d : Decl) → IsLocal v c → IsMade v ks ms d → AreUnlike g c d
local-made g v ks ms c d h k = named-made g v ks ms c d h.text h.form (dotless h.text h.name) k

literal-made : (g : Parts) (v : Scene) (ks : Kinds) (ms : List Member) (c d : Decl) → IsLiteral c → IsMade v ks ms d → AreUnlike g c d
literal-made g v ks ms c d h k = named-made g v ks ms c d h.text h.form (literal_word h.text h.is).dotless k

named-lambda : (g : Parts) (v : Scene) (c d : Decl) (t : List ℕ) → c.form ≡ Name t → IsLambda v d → AreUnlike g c d
named-lambda g v c d t e k = name-unlike g c d t e (λ q. name-no-lambda d.form k.text t k.form q)

made-lambda : (g : Parts) (v : Scene) (ks : Kinds) (ms : List Member) (c d : Decl) → IsMade v ks ms c → IsLambda v d → AreUnlike g c d
made-lambda g v ks ms c d h k =
    unlike-turn g d c (lambda-unlike g d c k.text k.form (λ e. not-lambda v h.member (member_decl v ks ms h.member).form h.member.kind (is_static h.member) k.text (shape v ks ms h.member) (sym (ap (λ x. x.form) h.is) ∙ e)))

-- all of them
pub all-unlike : (v : Scene) (ks : Kinds) (ms : List Member) (fs : List Face) (ds : List Decl) (limit depth : ℕ) → IsSite v → AllByRecursion (IsKnown v ks) ms → Each2 Differ ms → AllByRecursion (λ f. IsSome (class_spelling v f.name)) fs → Each2 HaveOwnNames fs → HaveTexts v ks ms fs → Each2 (AreUnlike (parts_by v ks ds limit depth)) (decls_of v ks ms fs)
unfolding decls_of
all-unlike v ks ms fs ds limit depth s known differ spelled own texts =
    let g = parts_by v ks ds limit depth in
    let R = AreUnlike g in
    let a = this_decls v ks in
    let b = local_decls v ks in
    let c = declarations.literals v ks in
    let m = member_decls v ks ms in
    let f = face_decls v ks fs in
    let ha = these v ks in
    let hb = locals v ks s texts.locals in
    let hc = literal-decls v ks in
    let sh = shown v ks ms known texts.members in
    let hm = made-decls v ks ms sh in
    let hf = lambdas v ks fs spelled texts.faces in
    each-append R (((a ++ b) ++ c) ++ m) f
    (each-append R ((a ++ b) ++ c) m
    (each-append R (a ++ b) c
    (each-append R a b (each-this g v.site.is_static (simple_decl ks This (of_class (edited v)) v.weights.local)) (each-local g v ks s) (across-on (IsThis v ks) (IsLocal v) R (this-local g v ks) a b ha hb))
    (each-literal g v ks)
    (all-append (λ x. AllByRecursion (R x) c) a b (across-on (IsThis v ks) IsLiteral R (this-literal g v ks) a c ha hc) (across-on (IsLocal v) IsLiteral R (local-literal g v) b c hb hc)))
    (each-member v ks ms ds limit depth s sh differ)
    (all-append (λ x. AllByRecursion (R x) m) (a ++ b) c
    (all-append (λ x. AllByRecursion (R x) m) a b (across-on (IsThis v ks) (IsMade v ks ms) R (this-made g v ks ms) a m ha hm) (across-on (IsLocal v) (IsMade v ks ms) R (local-made g v ks ms) b m hb hm))
    (across-on IsLiteral (IsMade v ks ms) R (literal-made g v ks ms) c m hc hm)))
    (each-face g v ks fs s spelled texts.faces own)
    (all-append (λ x. AllByRecursion (R x) f) ((a ++ b) ++ c) m
    (all-append (λ x. AllByRecursion (R x) f) (a ++ b) c
    (all-append (λ x. AllByRecursion (R x) f) a b (across-on (IsThis v ks) (IsLambda v) R (this-lambda g v ks) a f ha hf) (across-on (IsLocal v) (IsLambda v) R (λ x y h k. named-lambda g v x y h.text h.form k) b f hb hf))
    (across-on IsLiteral (IsLambda v) R (λ x y h k. named-lambda g v x y h.text h.form k) c f hc hf))
    (across-on (IsMade v ks ms) (IsLambda v) R (made-lambda g v ks ms) m f hm hf))
