-- No two declarations of an environment at two places are alike.
use Rattle.std.proofs.Common.{◌≡◌, ◌∙◌, sym, ap, subst, refl, arith, ℕ, Bool, true, false, List, [], ◌∷◌, length, map, IsUtf8}
use Rattle.std.proofs.lemmas.List.{length-map}
use Rattle.type_names.specs.declared.kinds.Erased.{Erased}
use Rattle.terms.specs.Apart.{AreAlike, HasReceiver, AreTold}
use Rattle.terms.specs.declared.parts.Decl.{Decl}
use Rattle.terms.specs.declared.parts.Form.{Form}
use Rattle.terms.specs.declared.parts.Form.TheVariants.{Name, This, Call, New, Method, Field, Lambda}
use Rattle.offers.specs.Scenes.{Scene, of_class}
use Rattle.offers.specs.declared.member.Kind.{Kind}
use Rattle.offers.specs.declared.member.Kind.TheVariants as kind
use Rattle.offers.specs.declared.member.Member.{Member}
use Rattle.offers.specs.Candidates.{is_static}
use Rattle.offers.specs.Omissions.{meet, owner_text, static_text}
use Rattle.scopes.specs.Binders.{form_text}
use Rattle.scopes.specs.Declarations.{member_decl}
use Rattle.scopes.specs.Kinds.{Kinds}
use Rattle.scopes.specs.Environments.{parts_by}
use Rattle.hole_texts.proofs.Spelled.{IsSpelling, class-spells, class-name, one-class}
use Rattle.hole_texts.proofs.Left.{IsLeft, AreKin, others}
use Rattle.hole_texts.proofs.Shown.{Shape, static_field, own_field, static_method, own_method, maker, shape, arg_of, args-are, own-wants, call-wants, method-wants, maker-wants, same-args, static-parts, same-static, owner-has, needs-maker, field-made, method-made}
use Rattle.hole_texts.proofs.Unlike.{AreUnlike, name-same, ArePair, by-params, by-owners}

-- the forms of members
pub not-this : (v : Scene) (m : Member) (f : Form) (k : Kind) (s : Bool) → Shape v m f k s → f ≡ This → ⊥
not-this v m f k s (static_field a b e) q = absurd cc
not-this v m f k s (own_field a b e) q = absurd cc
not-this v m f k s (static_method a b e) q = absurd cc
not-this v m f k s (own_method a b e) q = absurd cc
not-this v m f k s (maker a e) q = absurd cc

pub not-lambda : (v : Scene) (m : Member) (f : Form) (k : Kind) (s : Bool) (t : List ℕ) → Shape v m f k s → f ≡ Lambda t → ⊥
not-lambda v m f k s t (static_field a b e) q = absurd cc
not-lambda v m f k s t (own_field a b e) q = absurd cc
not-lambda v m f k s t (static_method a b e) q = absurd cc
not-lambda v m f k s t (own_method a b e) q = absurd cc
not-lambda v m f k s t (maker a e) q = absurd cc

-- a member that is written as a name
pub record IsStaticField (v : Scene) (m : Member) (k : Kind) (s : Bool) (t : List ℕ) : Type 0 where
  pub kind_is : k ≡ kind.Field
  pub static : s ≡ true
  pub is : t ≡ static_text v m

pub name-shape : (v : Scene) (m : Member) (f : Form) (k : Kind) (s : Bool) (t : List ℕ) → Shape v m f k s → f ≡ Name t → IsStaticField v m k s t
name-shape v m f k s t (static_field a b e) q = record { kind_is = a; static = b; is = name-same f t (static_text v m) q e }
name-shape v m f k s t (own_field a b e) q = absurd cc
name-shape v m f k s t (static_method a b e) q = absurd cc
name-shape v m f k s t (own_method a b e) q = absurd cc
name-shape v m f k s t (maker a e) q = absurd cc

alike-forms : (f h p q : Form) → f ≡ p → h ≡ q → AreAlike f h → AreAlike p q
alike-forms f h p q e d a = subst (λ x. AreAlike x q) e (subst (λ x. AreAlike f x) d a)

no-params : (v : Scene) (ks : Kinds) (ms : List Member) (m : Member) → IsLeft v ks ms m → m.kind ≡ kind.Field → m.params ≡ []
no-params v ks ms m h k = h.member.of.params k

cons-parts : (a b : List ℕ) (xs ys : List Erased) → ◌≡◌ {A = List Erased} (of_class a ∷ xs) (of_class b ∷ ys) → (a ≡ b) × (xs ≡ ys)
cons-parts a b xs ys e =
    let heads : of_class a ≡ of_class b = cc in
    let tails : xs ≡ ys = cc in
    (class-name a b heads, tails)

two-fields : (v : Scene) (ks : Kinds) (ms : List Member) (m n : Member) → ArePair v ks ms m n → m.kind ≡ kind.Field → n.kind ≡ kind.Field → is_static m ≡ true → is_static n ≡ true → IsUtf8 (static_text v m) → IsUtf8 (static_text v n) → static_text v m ≡ static_text v n → ⊥
two-fields v ks ms m n p k l s t u w e =
    let a = static-parts v ks ms m p.site p.first.left (λ q. field-made (sym k ∙ q)) s u in
    let b = static-parts v ks ms n p.site p.second.left (λ q. field-made (sym l ∙ q)) t w in
    let same = same-static v m n p.site a b e in
    others m n (record { kind_is = k ∙ sym l; name_is = same.1 }) p.differ same.0 (no-params v ks ms m p.first.left k ∙ sym (no-params v ks ms n p.second.left l))

name-text : (f : Form) (t : List ℕ) → f ≡ Name t → IsUtf8 (form_text f) → IsUtf8 t
name-text f t e u = subst (λ x. IsUtf8 (form_text x)) e u

names-apart : (v : Scene) (ks : Kinds) (ms : List Member) (m n : Member) → ArePair v ks ms m n → (t : List ℕ) → (member_decl v ks ms m).form ≡ Name t → (member_decl v ks ms n).form ≡ Name t → ⊥
names-apart v ks ms m n p t e d =
    let a = name-shape v m (member_decl v ks ms m).form m.kind (is_static m) t (shape v ks ms m) e in
    let b = name-shape v n (member_decl v ks ms n).form n.kind (is_static n) t (shape v ks ms n) d in
    two-fields v ks ms m n p a.kind_is b.kind_is a.static b.static
    (subst IsUtf8 a.is (name-text (member_decl v ks ms m).form t e p.first.utf8)) (subst IsUtf8 b.is (name-text (member_decl v ks ms n).form t d p.second.utf8)) (sym a.is ∙ b.is)

-- two calls, two creations, two methods and two fields
two-calls : (v : Scene) (ks : Kinds) (ms : List Member) (ds : List Decl) (limit depth : ℕ) (m n : Member) → ArePair v ks ms m n → m.kind ≡ kind.Method → n.kind ≡ kind.Method → is_static m ≡ true → is_static n ≡ true → (member_decl v ks ms m).form ≡ Call (static_text v m) → (member_decl v ks ms n).form ≡ Call (static_text v n) → static_text v m ≡ static_text v n → length (member_decl v ks ms m).args ≡ length (member_decl v ks ms n).args → AreTold (parts_by v ks ds limit depth) (member_decl v ks ms m) (member_decl v ks ms n)
two-calls v ks ms ds limit depth m n p k q s t e d same l =
    let a = static-parts v ks ms m p.site p.first.left (λ x. method-made (sym k ∙ x)) s (subst (λ f. IsUtf8 (form_text f)) e p.first.utf8) in
    let b = static-parts v ks ms n p.site p.second.left (λ x. method-made (sym q ∙ x)) t (subst (λ f. IsUtf8 (form_text f)) d p.second.utf8) in
    let one = same-static v m n p.site a b same in
    by-params v ks ms ds limit depth m n p (record { kind_is = k ∙ sym q; name_is = one.1 }) one.0 (call-wants m k s) (call-wants n q t) l

two-makers : (v : Scene) (ks : Kinds) (ms : List Member) (ds : List Decl) (limit depth : ℕ) (m n : Member) → ArePair v ks ms m n → m.kind ≡ kind.Constructor → n.kind ≡ kind.Constructor → (member_decl v ks ms m).form ≡ New (owner_text v m) → owner_text v m ≡ owner_text v n → length (member_decl v ks ms m).args ≡ length (member_decl v ks ms n).args → AreTold (parts_by v ks ds limit depth) (member_decl v ks ms m) (member_decl v ks ms n)
two-makers v ks ms ds limit depth m n p k q e same l =
    let a = class-spells v m.owner (owner_text v m) (owner-has v ks ms m p.first.left (needs-maker m k)).spelled in
    let b = class-spells v n.owner (owner_text v n) (owner-has v ks ms n p.second.left (needs-maker n q)).spelled in
    let u : IsUtf8 (owner_text v m) = subst (λ f. IsUtf8 (form_text f)) e p.first.utf8 in
    let one = one-class v m.owner n.owner (owner_text v m) p.site.word u a (subst (IsSpelling v n.owner) (sym same) b) in
    let name : m.name ≡ n.name = p.first.left.member.of.maker k ∙ sym (p.second.left.member.of.maker q) in
    by-params v ks ms ds limit depth m n p (record { kind_is = k ∙ sym q; name_is = name }) one (maker-wants m k) (maker-wants n q) l

two-own : (v : Scene) (ks : Kinds) (ms : List Member) (ds : List Decl) (limit depth : ℕ) (m n : Member) → ArePair v ks ms m n → m.kind ≡ kind.Field → n.kind ≡ kind.Field → is_static m ≡ false → is_static n ≡ false → HasReceiver (member_decl v ks ms m).form → m.name ≡ n.name → AreTold (parts_by v ks ds limit depth) (member_decl v ks ms m) (member_decl v ks ms n)
two-own v ks ms ds limit depth m n p k q s t r name =
    let kin : AreKin m n = record { kind_is = k ∙ sym q; name_is = name } in
    let none : m.params ≡ n.params = no-params v ks ms m p.first.left k ∙ sym (no-params v ks ms n p.second.left q) in
    let wm = own-wants m k s in
    let wn = own-wants n q t in
    by-owners v ks ms ds limit depth m n [] [] p kin r (ap length none) wm wn
    (λ e. others m n kin p.differ (cons-parts m.owner n.owner [] [] (same-args ks (of_class m.owner ∷ []) (of_class n.owner ∷ []) (p.first.left.own, tt) (p.second.left.own, tt) (sym (ap (map (arg_of ks)) wm) ∙ e ∙ ap (map (arg_of ks)) wn))).0 none)
    (meet v ks.types m n) refl

two-methods : (v : Scene) (ks : Kinds) (ms : List Member) (ds : List Decl) (limit depth : ℕ) (m n : Member) → ArePair v ks ms m n → m.kind ≡ kind.Method → n.kind ≡ kind.Method → is_static m ≡ false → is_static n ≡ false → HasReceiver (member_decl v ks ms m).form → m.name ≡ n.name → length (member_decl v ks ms m).args ≡ length (member_decl v ks ms n).args → AreTold (parts_by v ks ds limit depth) (member_decl v ks ms m) (member_decl v ks ms n)
two-methods v ks ms ds limit depth m n p k q s t r name l =
    let kin : AreKin m n = record { kind_is = k ∙ sym q; name_is = name } in
    let wm = method-wants m k s in
    let wn = method-wants n q t in
    let am : (member_decl v ks ms m).args ≡ map (arg_of ks) (of_class m.owner ∷ m.params) = args-are v ks ms m ∙ ap (map (arg_of ks)) wm in
    let an : (member_decl v ks ms n).args ≡ map (arg_of ks) (of_class n.owner ∷ n.params) = args-are v ks ms n ∙ ap (map (arg_of ks)) wn in
    let long : length (map (arg_of ks) m.params) ≡ length (map (arg_of ks) n.params) = omega (arith, sym (ap length am) ∙ l ∙ ap length an) in
    let same : length m.params ≡ length n.params = sym (length-map m.params (arg_of ks)) ∙ long ∙ length-map n.params (arg_of ks) in
    by-owners v ks ms ds limit depth m n m.params n.params p kin r same wm wn
    (λ e. let c = cons-parts m.owner n.owner m.params n.params (same-args ks (of_class m.owner ∷ m.params) (of_class n.owner ∷ n.params) (p.first.left.own, p.first.left.params) (p.second.left.own, p.second.left.params) (sym (ap (map (arg_of ks)) wm) ∙ e ∙ ap (map (arg_of ks)) wn)) in
    others m n kin p.differ c.0 c.1)
    (meet v ks.types m n) refl

not-name : (t : List ℕ) (f : Form) → AreAlike (Name t) f → ⊥
not-name t (Name s) a = a
not-name t This a = a
not-name t (Call s) a = a
not-name t (New s) a = a
not-name t (Method s) a = a
not-name t (Field s h) a = a
not-name t (Lambda s) a = a

not-after-name : (t : List ℕ) (f : Form) → AreAlike f (Name t) → ⊥
not-after-name t (Name s) a = a
not-after-name t This a = a
not-after-name t (Call s) a = a
not-after-name t (New s) a = a
not-after-name t (Method s) a = a
not-after-name t (Field s h) a = a
not-after-name t (Lambda s) a = a

alike-case : (v : Scene) (ks : Kinds) (ms : List Member) (ds : List Decl) (limit depth : ℕ) (m n : Member) → ArePair v ks ms m n → Shape v m (member_decl v ks ms m).form m.kind (is_static m) → Shape v n (member_decl v ks ms n).form n.kind (is_static n) → AreAlike (member_decl v ks ms m).form (member_decl v ks ms n).form → length (member_decl v ks ms m).args ≡ length (member_decl v ks ms n).args → AreTold (parts_by v ks ds limit depth) (member_decl v ks ms m) (member_decl v ks ms n)
alike-case v ks ms ds limit depth m n p (static_field k s e) b a l = absurd (not-name (static_text v m) (member_decl v ks ms n).form (subst (λ f. AreAlike f (member_decl v ks ms n).form) e a))
alike-case v ks ms ds limit depth m n p (own_field k s e) (own_field q t d) a l = two-own v ks ms ds limit depth m n p k q s t (subst HasReceiver (sym e) tt) (alike-forms _ _ _ _ e d a)
alike-case v ks ms ds limit depth m n p (static_method k s e) (static_method q t d) a l = two-calls v ks ms ds limit depth m n p k q s t e d (alike-forms _ _ _ _ e d a) l
alike-case v ks ms ds limit depth m n p (own_method k s e) (own_method q t d) a l = two-methods v ks ms ds limit depth m n p k q s t (subst HasReceiver (sym e) tt) (alike-forms _ _ _ _ e d a) l
alike-case v ks ms ds limit depth m n p (maker k e) (maker q d) a l = two-makers v ks ms ds limit depth m n p k q e (alike-forms _ _ _ _ e d a) l
alike-case v ks ms ds limit depth m n p (own_field k s e) (static_field q t d) a l = absurd (alike-forms _ _ _ _ e d a)
alike-case v ks ms ds limit depth m n p (own_field k s e) (static_method q t d) a l = absurd (alike-forms _ _ _ _ e d a)
alike-case v ks ms ds limit depth m n p (own_field k s e) (own_method q t d) a l = absurd (alike-forms _ _ _ _ e d a)
alike-case v ks ms ds limit depth m n p (own_field k s e) (maker q d) a l = absurd (alike-forms _ _ _ _ e d a)
alike-case v ks ms ds limit depth m n p (static_method k s e) (static_field q t d) a l = absurd (alike-forms _ _ _ _ e d a)
alike-case v ks ms ds limit depth m n p (static_method k s e) (own_field q t d) a l = absurd (alike-forms _ _ _ _ e d a)
alike-case v ks ms ds limit depth m n p (static_method k s e) (own_method q t d) a l = absurd (alike-forms _ _ _ _ e d a)
alike-case v ks ms ds limit depth m n p (static_method k s e) (maker q d) a l = absurd (alike-forms _ _ _ _ e d a)
alike-case v ks ms ds limit depth m n p (own_method k s e) (static_field q t d) a l = absurd (alike-forms _ _ _ _ e d a)
alike-case v ks ms ds limit depth m n p (own_method k s e) (own_field q t d) a l = absurd (alike-forms _ _ _ _ e d a)
alike-case v ks ms ds limit depth m n p (own_method k s e) (static_method q t d) a l = absurd (alike-forms _ _ _ _ e d a)
alike-case v ks ms ds limit depth m n p (own_method k s e) (maker q d) a l = absurd (alike-forms _ _ _ _ e d a)
alike-case v ks ms ds limit depth m n p (maker k e) (static_field q t d) a l = absurd (alike-forms _ _ _ _ e d a)
alike-case v ks ms ds limit depth m n p (maker k e) (own_field q t d) a l = absurd (alike-forms _ _ _ _ e d a)
alike-case v ks ms ds limit depth m n p (maker k e) (static_method q t d) a l = absurd (alike-forms _ _ _ _ e d a)
alike-case v ks ms ds limit depth m n p (maker k e) (own_method q t d) a l = absurd (alike-forms _ _ _ _ e d a)

pub members-unlike : (v : Scene) (ks : Kinds) (ms : List Member) (ds : List Decl) (limit depth : ℕ) (m n : Member) → ArePair v ks ms m n → AreUnlike (parts_by v ks ds limit depth) (member_decl v ks ms m) (member_decl v ks ms n)
members-unlike v ks ms ds limit depth m n p = record {
  this = λ a b. not-this v m (member_decl v ks ms m).form m.kind (is_static m) (shape v ks ms m) a;
  name = λ t a b. names-apart v ks ms m n p t a b;
  lambda = λ t a b. not-lambda v m (member_decl v ks ms m).form m.kind (is_static m) t (shape v ks ms m) a;
  alike = λ a l. alike-case v ks ms ds limit depth m n p (shape v ks ms m) (shape v ks ms n) a l;
}
