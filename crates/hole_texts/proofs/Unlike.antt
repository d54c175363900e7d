-- No two declarations of an environment look alike, unless casts or receivers tell them apart.
use Rattle.std.proofs.Common.{◌≡◌, ◌∙◌, inl, inr, sym, ap, subst, refl, ℕ, ◌==◌, Bool, true, false, List, ◌∷◌, length, map, get_or, Option, None, Some}
use Rattle.std.proofs.lemmas.Bool.{false≢true, or_cases, eqb-true}
use Rattle.std.proofs.lemmas.List.{length-map}
use Rattle.type_names.specs.declared.kinds.Erased.{Erased}
use Rattle.terms.specs.Typing.{is_pair, is_below}
use Rattle.terms.specs.Apart.{IsOf, AreAlike, HasReceiver, AreTold}
use Rattle.terms.specs.declared.parts.Arg.{Arg}
use Rattle.terms.specs.declared.parts.Arg.TheVariants.{Plain}
use Rattle.terms.specs.declared.parts.Decl.{Decl}
use Rattle.terms.specs.declared.parts.Form.{Form}
use Rattle.terms.specs.declared.parts.Form.TheVariants.{Name, This, Call, New, Method, Field, Lambda}
use Rattle.terms.specs.declared.parts.Parts.{Parts}
use Rattle.java_shapes.proofs.Told.{alike_turn, alike_receiver}
use Rattle.offers.specs.Scenes.{Scene, of_class, at_or_below}
use Rattle.offers.specs.Pairs.{pairs_of}
use Rattle.offers.specs.declared.member.Member.{Member}
use Rattle.offers.specs.Candidates.{is_static}
use Rattle.offers.specs.Omissions.{is_under, meet, is_crowded}
use Rattle.scopes.specs.Kinds.{Kinds, listed, count, type_number, is_outcome_below, is_below_in}
use Rattle.scopes.specs.Declarations.{wants_by, member_decl}
use Rattle.scopes.specs.Environments.{parts_by}
use Rattle.scopes.proofs.OrderPairs.{rows_known}
use Rattle.scopes.proofs.Listed.{some-listed}
use Rattle.hole_texts.proofs.Members.{Differ}
use Rattle.hole_texts.proofs.Left.{Stands, AreKin, others, others-turn, crowded, meet-turn, meet-own, at-or-below}
use Rattle.hole_texts.proofs.Origins.{IsSite, IsShown}
use Rattle.hole_texts.proofs.Shown.{arg_of, args-are, crowded-is, number-get, some-one, same-args}

-- two declarations at two places
pub record AreUnlike (g : Parts) (c d : Decl) : Type 0 where
  pub this : c.form ≡ This → d.form ≡ This → ⊥
  pub name : (s : List ℕ) → c.form ≡ Name s → d.form ≡ Name s → ⊥
  pub lambda : (s : List ℕ) → c.form ≡ Lambda s → d.form ≡ Lambda s → ⊥
  pub alike : AreAlike c.form d.form → length c.args ≡ length d.args → AreTold g c d

told-turn : (g : Parts) (c d : Decl) → AreAlike c.form d.form → AreTold g c d → AreTold g d c
told-turn g c d a (inl h) = inl (h.1, h.0, λ e. h.2 (sym e))
told-turn g c d a (inr h) = inr (alike_receiver c.form d.form a h.0, λ x y t p q l b e. h.1 y x t q p l e b)

pub unlike-turn : (g : Parts) (c d : Decl) → AreUnlike g c d → AreUnlike g d c
unlike-turn g c d h = record {
  this = λ a b. h.this b a;
  name = λ s a b. h.name s b a;
  lambda = λ s a b. h.lambda s b a;
  alike = λ a l. let t = alike_turn d.form c.form a in told-turn g c d t (h.alike t (sym l));
}

-- forms of different kinds
not-alike-this : (f : Form) → AreAlike This f → ⊥
not-alike-this (Name s) a = a
not-alike-this This a = a
not-alike-this (Call s) a = a
not-alike-this (New s) a = a
not-alike-this (Method s) a = a
not-alike-this (Field s h) a = a
not-alike-this (Lambda s) a = a

not-alike-name : (t : List ℕ) (f : Form) → AreAlike (Name t) f → ⊥
not-alike-name t (Name s) a = a
not-alike-name t This a = a
not-alike-name t (Call s) a = a
not-alike-name t (New s) a = a
not-alike-name t (Method s) a = a
not-alike-name t (Field s h) a = a
not-alike-name t (Lambda s) a = a

not-alike-lambda : (t : List ℕ) (f : Form) → AreAlike (Lambda t) f → ⊥
not-alike-lambda t (Name s) a = a
not-alike-lambda t This a = a
not-alike-lambda t (Call s) a = a
not-alike-lambda t (New s) a = a
not-alike-lambda t (Method s) a = a
not-alike-lambda t (Field s h) a = a
not-alike-lambda t (Lambda s) a = a

this-name : (f : Form) (s : List ℕ) → f ≡ This → f ≡ Name s → ⊥
this-name f s a b = cc

this-lambda : (f : Form) (s : List ℕ) → f ≡ This → f ≡ Lambda s → ⊥
this-lambda f s a b = cc

name-lambda : (f : Form) (s t : List ℕ) → f ≡ Name s → f ≡ Lambda t → ⊥
name-lambda f s t a b = cc

pub name-same : (f : Form) (s t : List ℕ) → f ≡ Name s → f ≡ Name t → s ≡ t
name-same f s t a b = cc

pub lambda-same : (f : Form) (s t : List ℕ) → f ≡ Lambda s → f ≡ Lambda t → s ≡ t
lambda-same f s t a b = cc

pub this-unlike : (g : Parts) (c d : Decl) → c.form ≡ This → (d.form ≡ This → ⊥) → AreUnlike g c d
this-unlike g c d e n = record {
  this = λ a b. n b;
  name = λ s a b. this-name c.form s e a;
  lambda = λ s a b. this-lambda c.form s e a;
  alike = λ a l. absurd (not-alike-this d.form (subst (λ f. AreAlike f d.form) e a));
}

pub name-unlike : (g : Parts) (c d : Decl) (t : List ℕ) → c.form ≡ Name t → (d.form ≡ Name t → ⊥) → AreUnlike g c d
name-unlike g c d t e n = record {
  this = λ a b. this-name c.form t a e;
  name = λ s a b. n (b ∙ ap Name (sym (name-same c.form t s e a)));
  lambda = λ s a b. name-lambda c.form t s e a;
  alike = λ a l. absurd (not-alike-name t d.form (subst (λ f. AreAlike f d.form) e a));
}

pub lambda-unlike : (g : Parts) (c d : Decl) (t : List ℕ) → c.form ≡ Lambda t → (d.form ≡ Lambda t → ⊥) → AreUnlike g c d
lambda-unlike g c d t e n = record {
  this = λ a b. this-lambda c.form t a e;
  name = λ s a b. name-lambda c.form s t a e;
  lambda = λ s a b. n (b ∙ ap Lambda (sym (lambda-same c.form t s e a)));
  alike = λ a l. absurd (not-alike-lambda t d.form (subst (λ f. AreAlike f d.form) e a));
}

-- two members: what both are
pub record ArePair (v : Scene) (ks : Kinds) (ms : List Member) (m n : Member) : Type 0 where
  pub site : IsSite v
  pub first : IsShown v ks ms m
  pub second : IsShown v ks ms n
  pub differ : Differ m n

record AreCrowded (v : Scene) (ks : Kinds) (ms : List Member) (m n : Member) : Type 0 where
  pub first : is_crowded v ks.types ms m ≡ true
  pub second : is_crowded v ks.types ms n ≡ true

both-crowded : (v : Scene) (ks : Kinds) (ms : List Member) (m n : Member) → ArePair v ks ms m n → AreKin m n → length m.params ≡ length n.params → meet v ks.types m n ≡ true → AreCrowded v ks ms m n
both-crowded v ks ms m n p k l e =
    let o = others m n k p.differ in
    let turned : AreKin n m = record { kind_is = sym k.kind_is; name_is = sym k.name_is } in
    record {
      first = crowded v ks ms m n p.second.left.among k l o e;
      second = crowded v ks ms n m p.first.left.among turned (sym l) (others-turn m n o) (meet-turn v ks m n e);
    }

-- told by casts
by-casts : (v : Scene) (ks : Kinds) (ms : List Member) (ds : List Decl) (limit depth : ℕ) (m n : Member) → AreCrowded v ks ms m n → (map (arg_of ks) (wants_by m m.kind (is_static m)) ≡ map (arg_of ks) (wants_by n n.kind (is_static n)) → ⊥) → AreTold (parts_by v ks ds limit depth) (member_decl v ks ms m) (member_decl v ks ms n)
by-casts v ks ms ds limit depth m n c f = inl (crowded-is v ks ms m ∙ c.first, crowded-is v ks ms n ∙ c.second, λ e. f (sym (args-are v ks ms m) ∙ e ∙ args-are v ks ms n))

-- members of one owner, and with one number of parameters
pub by-params : (v : Scene) (ks : Kinds) (ms : List Member) (ds : List Decl) (limit depth : ℕ) (m n : Member) → ArePair v ks ms m n → AreKin m n → m.owner ≡ n.owner → wants_by m m.kind (is_static m) ≡ m.params → wants_by n n.kind (is_static n) ≡ n.params → length (member_decl v ks ms m).args ≡ length (member_decl v ks ms n).args → AreTold (parts_by v ks ds limit depth) (member_decl v ks ms m) (member_decl v ks ms n)
by-params v ks ms ds limit depth m n p k o wm wn l =
    let am : (member_decl v ks ms m).args ≡ map (arg_of ks) m.params = args-are v ks ms m ∙ ap (map (arg_of ks)) wm in
    let an : (member_decl v ks ms n).args ≡ map (arg_of ks) n.params = args-are v ks ms n ∙ ap (map (arg_of ks)) wn in
    let same : length m.params ≡ length n.params = sym (length-map m.params (arg_of ks)) ∙ ap length (sym am) ∙ l ∙ ap length an ∙ length-map n.params (arg_of ks) in
    by-casts v ks ms ds limit depth m n (both-crowded v ks ms m n p k same (meet-own v ks m n p.first.left.own o))
    (λ e. others m n k p.differ o (same-args ks m.params n.params p.first.left.params p.second.left.params (sym (ap (map (arg_of ks)) wm) ∙ e ∙ ap (map (arg_of ks)) wn)))

-- a type that stands where an owner is wanted
first-of : (xs : List Arg) (b a : ℕ) (more : List Arg) → xs ≡ Plain b ∷ more → IsOf xs a → a ≡ b
first-of xs b a more e h = sym (only (subst (λ z. IsOf z a) e h))
  where
    only : IsOf (Plain b ∷ more) a → b ≡ a
    only q = q

record IsLow (v : Scene) (k : Option Erased) (u : Erased) : Type 0 where
  pub kind : Erased
  pub is : k ≡ Some kind
  pub below : at_or_below v kind u ≡ true

low-by : (v : Scene) (k : Option Erased) (u : Erased) → is_outcome_below v k (Some u) ≡ true → IsLow v k u
low-by v None u e = absurd (false≢true e)
low-by v (Some t) u e = record { kind = t; is = refl; below = at-or-below v t u (inr e) }

below-type : (v : Scene) (ks : Kinds) (ds : List Decl) (limit depth t : ℕ) (u : Erased) → Stands ks u → is_below (parts_by v ks ds limit depth) t (type_number ks u) ≡ true → IsLow v (get_or (listed ks) t None) u
unfolding is_below
below-type v ks ds limit depth t u h e = elim (or_cases (t == type_number ks u) (is_pair (pairs_of (count ks) (is_below_in v ks)) t (type_number ks u)) e) [
  | inl a ↦ record { kind = u; is = ap (λ k. get_or (listed ks) k None) (eqb-true t (type_number ks u) a) ∙ number-get ks u h; below = at-or-below v u u (inl refl) }
  | inr b ↦ low-by v (get_or (listed ks) t None) u (ap (is_outcome_below v (get_or (listed ks) t None)) (sym (number-get ks u h)) ∙ (rows_known (count ks) (is_below_in v ks) (count ks) t (type_number ks u) b).2)
]

-- told by casts where some type is at or below both owners, else by the receivers
pub by-owners : (v : Scene) (ks : Kinds) (ms : List Member) (ds : List Decl) (limit depth : ℕ) (m n : Member) (xs ys : List Erased) → ArePair v ks ms m n → AreKin m n → HasReceiver (member_decl v ks ms m).form → length m.params ≡ length n.params → (wants_by m m.kind (is_static m) ≡ of_class m.owner ∷ xs) → (wants_by n n.kind (is_static n) ≡ of_class n.owner ∷ ys) → (map (arg_of ks) (wants_by m m.kind (is_static m)) ≡ map (arg_of ks) (wants_by n n.kind (is_static n)) → ⊥) → (b : Bool) → meet v ks.types m n ≡ b → AreTold (parts_by v ks ds limit depth) (member_decl v ks ms m) (member_decl v ks ms n)
by-owners v ks ms ds limit depth m n xs ys p k r l wm wn f true e = by-casts v ks ms ds limit depth m n (both-crowded v ks ms m n p k l e) f
by-owners v ks ms ds limit depth m n xs ys p k r l wm wn f false e =
    let am : (member_decl v ks ms m).args ≡ map (arg_of ks) (of_class m.owner ∷ xs) = args-are v ks ms m ∙ ap (map (arg_of ks)) wm in
    let an : (member_decl v ks ms n).args ≡ map (arg_of ks) (of_class n.owner ∷ ys) = args-are v ks ms n ∙ ap (map (arg_of ks)) wn in
    inr (
      r,
      λ a b t oa ob low ba bb.
          let qa : a ≡ type_number ks (of_class m.owner) = first-of (member_decl v ks ms m).args (type_number ks (of_class m.owner)) a (map (arg_of ks) xs) am oa in
          let qb : b ≡ type_number ks (of_class n.owner) = first-of (member_decl v ks ms n).args (type_number ks (of_class n.owner)) b (map (arg_of ks) ys) an ob in
          let x : IsLow v (get_or (listed ks) t None) (of_class m.owner) = below-type v ks ds limit depth t (of_class m.owner) p.first.left.own (subst (λ z. is_below (parts_by v ks ds limit depth) t z ≡ true) qa ba) in
          let y : IsLow v (get_or (listed ks) t None) (of_class n.owner) = below-type v ks ds limit depth t (of_class n.owner) p.second.left.own (subst (λ z. is_below (parts_by v ks ds limit depth) t z ≡ true) qb bb) in
          let one : y.kind ≡ x.kind = some-one y.kind x.kind (sym y.is ∙ x.is) in
          let under : at_or_below v x.kind (of_class n.owner) ≡ true = subst (λ z. at_or_below v z (of_class n.owner) ≡ true) one y.below in
          let both : is_under v m n x.kind ≡ true = rw (x.below, under) refl in
          false≢true (sym e ∙ some-listed ks (is_under v m n) t x.kind x.is both),
    )
