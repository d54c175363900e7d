-- The declarations of a hole's environment are told apart by their texts.
use Rattle.std.proofs.Common.{◌≡◌, ◌≢◌, ◌∙◌, inl, inr, sym, ap, subst, ℕ, Bool, true, false, List, map}
use Rattle.std.specs.List.{AllByRecursion}
use Rattle.std.proofs.lemmas.Bool.{false≢true, cases_eq}
use Rattle.type_names.specs.declared.kinds.Erased.{Erased}
use Rattle.terms.specs.Apart.{Declares, HasDot, IsToldApart}
use Rattle.terms.specs.declared.parts.Decl.{Decl}
use Rattle.terms.specs.declared.parts.Form.{Form}
use Rattle.terms.specs.declared.parts.Form.TheVariants.{Name, Call}
use Rattle.java_shapes.proofs.WordFacts.{lacks_not}
use Rattle.offers.specs.Scenes.{Scene, edited, of_class, is_among}
use Rattle.offers.specs.declared.member.Kind.{Kind}
use Rattle.offers.specs.declared.member.Member.{Member}
use Rattle.offers.specs.Candidates.{is_static}
use Rattle.offers.specs.Omissions.{after_three, owner_text, static_text, scope_names}
use Rattle.offers.specs.Functional.{faces}
use Rattle.scopes.specs.Kinds.{Kinds, listed, type_number, kind_text, kinds_of}
use Rattle.scopes.specs.Declarations.{member_decl, decls_of}
use Rattle.scopes.specs.Environments.{parts_by}
use Rattle.scopes.proofs.Numbered.{Has}
use Rattle.scopes.proofs.Declared.{Numbered, numbered}
use Rattle.hole_texts.specs.Texts.{HasTexts}
use Rattle.hole_texts.proofs.Pairs.{Each2, all-at, all-on, all-both, each-at}
use Rattle.hole_texts.proofs.Spelled.{IsName, IsTypeSpelled, dotless, one-type}
use Rattle.hole_texts.proofs.Members.{IsMember, three-members, three-differ}
use Rattle.hole_texts.proofs.Left.{IsKnown, Stands}
use Rattle.hole_texts.proofs.Faces.{faces-once, faces-spelled}
use Rattle.hole_texts.proofs.Origins.{IsSite, Origin, this, local, literal, made, lambda, HasText, have-texts, all-from, origins}
use Rattle.hole_texts.proofs.Shown.{Shape, static_field, own_field, static_method, own_method, maker, shape}
use Rattle.hole_texts.proofs.Unlike.{AreUnlike, unlike-turn}
use Rattle.hole_texts.proofs.Alike.{name-shape}
use Rattle.hole_texts.proofs.Places.{literal-no-name, all-unlike}
use Rattle.hole_texts.proofs.Taken.{IsOwn, own-is, dotted-by, front-free, front-no-name}
use Rattle.hole_texts.proofs.Wanted.{IsTextAt, crowded-wants, text-at}

-- what is known of an environment's declarations
pub record AreOrigins (v : Scene) (ks : Kinds) (ms : List Member) (ds : List Decl) (limit depth : ℕ) : Type 0 where
  pub site : IsSite v
  pub own : Stands ks (of_class (edited v))
  pub origins : AllByRecursion (Origin v ks ms) ds
  pub unlike : Each2 (AreUnlike (parts_by v ks ds limit depth)) ds
  pub texts : HasTexts (parts_by v ks ds limit depth)

has-stands : (ks : Kinds) (t : Erased) → Has ks.types t → Stands ks t
unfolding Has
has-stands ks t h = h

known-by : (v : Scene) (ks : Kinds) (m : Member) → IsMember v m × Numbered ks m → IsKnown v ks m
known-by v ks m h = record {
  member = h.0;
  own = has-stands ks (of_class m.owner) h.1.owner;
  params = all-on (Has ks.types) (Stands ks) (has-stands ks) m.params h.1.params;
}

pub are-origins : (v : Scene) (limit depth : ℕ) → IsSite v → (let ks = kinds_of v (after_three v) (faces v) in HasTexts (parts_by v ks (decls_of v ks (after_three v) (faces v)) limit depth)) → (let ks = kinds_of v (after_three v) (faces v) in AreOrigins v ks (after_three v) (decls_of v ks (after_three v) (faces v)) limit depth)
are-origins v limit depth s texts =
    let ms = after_three v in
    let fs = faces v in
    let ks = kinds_of v ms fs in
    let ds = decls_of v ks ms fs in
    let n = numbered v ms fs in
    let known = all-on (λ m. IsMember v m × Numbered ks m) (IsKnown v ks) (known-by v ks) ms (all-both (IsMember v) (Numbered ks) ms (three-members v) n.members) in
    let t = have-texts v ks ms fs (all-from HasText ds texts.forms) in
    record {
      site = s;
      own = has-stands ks (of_class (edited v)) n.own;
      origins = origins v ks ms fs s known (faces-spelled v) t;
      unlike = all-unlike v ks ms fs ds limit depth s known (three-differ v) (faces-spelled v) (faces-once v) t;
      texts = texts;
    }

-- a call's text has a dot
call-dot : (v : Scene) (m : Member) (f : Form) (k : Kind) (s : Bool) (t : List ℕ) → Shape v m f k s → f ≡ Call t → HasDot t
call-dot v m f k s t (static_field a b e) q = absurd cc
call-dot v m f k s t (own_field a b e) q = absurd cc
call-dot v m f k s t (static_method a b e) q = record { front = owner_text v m; rest = m.name; is = call-text f t (static_text v m) q e }
  where
    call-text : (f : Form) (s t : List ℕ) → f ≡ Call s → f ≡ Call t → s ≡ t
    call-text f s t x y = cc
call-dot v m f k s t (own_method a b e) q = absurd cc
call-dot v m f k s t (maker a e) q = absurd cc

calls : (v : Scene) (ks : Kinds) (ms : List Member) (d : Decl) (t : List ℕ) → Origin v ks ms d → d.form ≡ Call t → HasDot t
calls v ks ms d t (this h) e = let a = h.form in absurd cc
calls v ks ms d t (local h) e = let a = h.form in absurd cc
calls v ks ms d t (literal h) e = let a = h.form in absurd cc
calls v ks ms d t (made h) e = call-dot v h.member (member_decl v ks ms h.member).form h.member.kind (is_static h.member) t (shape v ks ms h.member) (sym (ap (λ (x : Decl). x.form) h.is) ∙ e)
calls v ks ms d t (lambda h) e = let a = h.form in absurd cc

-- a name is no field that isn't hidden
names-no-field : (v : Scene) (ks : Kinds) (ms : List Member) (c : Decl) (s : List ℕ) → Origin v ks ms c → c.form ≡ Name s → IsOwn v s false → ⊥
names-no-field v ks ms c s (this h) e o = let a = h.form in cc
names-no-field v ks ms c s (local h) e o =
    let a = h.form in
    let same : h.text ≡ s = cc in
    false≢true (o.hides ∙ subst (λ w. is_among (scope_names v) w ≡ true) same h.taken)
names-no-field v ks ms c s (literal h) e o =
    let a = h.form in
    let same : h.text ≡ s = cc in
    literal-no-name h.text h.is (subst IsName (sym same) o.name).identifier
names-no-field v ks ms c s (made h) e o =
    let f = (member_decl v ks ms h.member).form in
    let p = name-shape v h.member f h.member.kind (is_static h.member) s (shape v ks ms h.member) (sym (ap (λ (x : Decl). x.form) h.is) ∙ e) in
    lacks_not 46 s (owner_text v h.member) h.member.name (dotless s o.name) p.is
names-no-field v ks ms c s (lambda h) e o = let a = h.form in cc

one-wanted : (v : Scene) (ks : Kinds) (texts : List (List ℕ)) (a b : ℕ) → IsSite v → (h : IsTextAt v texts ks a) → (k : IsTextAt v texts ks b) → h.text ≡ k.text → a ≡ b
one-wanted v ks texts a b s h k e =
    let same : h.kind ≡ k.kind = one-type v h.kind k.kind h.text s.word h.utf8 h.spelled (subst (λ t. IsTypeSpelled v k.kind t) (sym e) k.spelled) in
    sym h.is ∙ ap (type_number ks) same ∙ k.is

-- the eight conditions
pub told-by : (v : Scene) (ks : Kinds) (ms : List Member) (ds : List Decl) (limit depth : ℕ) → AreOrigins v ks ms ds limit depth → IsToldApart (parts_by v ks ds limit depth)
told-by v ks ms ds limit depth h =
    let g = parts_by v ks ds limit depth in
    let of : (i : ℕ) (d : Decl) → Declares g i d → Origin v ks ms d = λ i d e. all-at (Origin v ks ms) ds i d h.origins e in
    let two : (i j : ℕ) (c d : Decl) → i ≢ j → Declares g i c → Declares g j d → AreUnlike g c d = λ i j c d n a b. each-at (AreUnlike g) (unlike-turn g) ds h.unlike i j c d n a b in
    record {
      one_this = λ i j c d a b e f. elim (cases_eq i j) [ inl q ↦ q | inr n ↦ absurd ((two i j c d n a b).this e f) ];
      names = λ i j c d s a b e f. elim (cases_eq i j) [ inl q ↦ q | inr n ↦ absurd ((two i j c d n a b).name s e f) ];
      lambdas = λ i j c d s a b e f. elim (cases_eq i j) [ inl q ↦ q | inr n ↦ absurd ((two i j c d n a b).lambda s e f) ];
      types = λ i j c d a b x y p q w u e.
          let k = text-at v ks a h.texts.types (crowded-wants v ks ms c a (of i c x) p w) in
          let l = text-at v ks b h.texts.types (crowded-wants v ks ms d b (of j d y) q u) in
          one-wanted v ks (map (kind_text v) (listed ks)) a b h.site k l (sym k.at ∙ e ∙ l.at);
      overloads = λ i j c d a b n alike l. (two i j c d n a b).alike alike l;
      no_name_before_a_dot = λ i j c d front rest a b e f. front-no-name v ks ms front d h.site (dotted-by v ks ms front rest c h.site (of i c a) e) (of j d b) f;
      no_field_before_a_dot = λ i j c d front rest hidden a b e f.
          let o = own-is v ks ms ds limit depth h.site h.own h.origins d front hidden (of j d b) f in
          front-free v ks ms front (dotted-by v ks ms front rest c h.site (of i c a) e) o.name o.taken;
      calls_have_dots = λ i j c d s a b e f. calls v ks ms d s (of j d b) f;
      fields_are_no_names = λ i j c d s a b e f. names-no-field v ks ms c s (of i c a) e (own-is v ks ms ds limit depth h.site h.own h.origins d s false (of j d b) f);
    }
