-- Where variables end, from what is told of the variables that their bounds are.
use Rattle.std.proofs.Common.{◌≡◌, ◌∙◌, ap, sym, refl, arith, subst, ℕ, zero, suc, ◌+◌, ◌-◌, ◌<◌, ◌≤◌, List, [], ◌∷◌, length, drop, set, slice_get, get_or, All, add-zero, Option, Some, None, IfSome, inl, inr, ◌⊎◌}
use Rattle.std.proofs.lemmas.Option.{slice_get_within, get_or_from_slice_get}
use Rattle.std.proofs.lemmas.List.Elements.{All-get_or}
use Rattle.std.proofs.lemmas.Bool.{cases_lt}
use Rattle.java_units.specs.declared.types.TypeText.{TypeText}
use Rattle.class_summary.specs.VariableTables.{bound_at}
use Rattle.class_summary.specs.Variables.{Scope, Found, variable_of, end_at, more_dims, by_variable, through, variables, end_with, end_of}
use Rattle.class_summary.specs.VariableEnds.{Reach, from_bound, EndsSo, IsEndOf, StandsAt, AreTold, AreEnds, AreToldOutside, IsNext, NextIs, LeadsOn, IsClosed, IsFurther}

through-suc : (n class : ℕ) (parts : List (List ℕ)) (ss : List Scope) → through (suc n) class parts ss ≡ by_variable class parts (variable_of parts ss) (λ f b. through n f.class b.parts f.scopes)
unfolding through
through-suc n class parts ss = refl

through-zero : (class : ℕ) (parts : List (List ℕ)) (ss : List Scope) → through 0 class parts ss ≡ None
unfolding through
through-zero class parts ss = refl

-- a name that is a variable
through-found : (n class : ℕ) (parts : List (List ℕ)) (ss : List Scope) (f : Found) → variable_of parts ss ≡ Some f → through (suc n) class parts ss ≡ from_bound n f.class f.bound f.scopes
through-found n class parts ss f e = through-suc n class parts ss ∙ ap (λ (q : Option Found). by_variable class parts q (λ f b. through n f.class b.parts f.scopes)) e

-- a name that is none
through-name : (n class : ℕ) (parts : List (List ℕ)) (ss : List Scope) → variable_of parts ss ≡ None → through (suc n) class parts ss ≡ Some (end_at 0 class (Some parts))
through-name n class parts ss e = through-suc n class parts ss ∙ ap (λ (q : Option Found). by_variable class parts q (λ f b. through n f.class b.parts f.scopes)) e

bound-zero : (class : ℕ) (b : TypeText) (ss : List Scope) → from_bound 0 class (Some b) ss ≡ None
bound-zero class b ss = ap (more_dims b.dims) (through-zero class b.parts ss)

bound-found : (n class : ℕ) (b : TypeText) (ss : List Scope) (f : Found) → variable_of b.parts ss ≡ Some f → from_bound (suc n) class (Some b) ss ≡ more_dims b.dims (from_bound n f.class f.bound f.scopes)
bound-found n class b ss f e = ap (more_dims b.dims) (through-found n class b.parts ss f e)

bound-name : (n class : ℕ) (b : TypeText) (ss : List Scope) → variable_of b.parts ss ≡ None → from_bound (suc n) class (Some b) ss ≡ Some (end_at b.dims class (Some b.parts))
bound-name n class b ss e = ap (more_dims b.dims) (through-name n class b.parts ss e) ∙ ap (λ (k : ℕ). Some (end_at k class (Some b.parts))) (add-zero b.dims)

same-end : (d k class at : ℕ) (parts last : Option (List (List ℕ))) → d ≡ k → at ≡ class → last ≡ parts → Some (end_at d class parts) ≡ Some (end_at k at last)
same-end d k class at parts last e c p = ap (λ (x : ℕ). Some (end_at x class parts)) e ∙ (ap (λ (x : ℕ). Some (end_at k x parts)) (sym c) ∙ ap (λ (x : Option (List (List ℕ))). Some (end_at k at x)) (sym p))

some-same : (d k : ℕ) → Some d ≡ Some k → d ≡ k
some-same d k e = cc

-- a variable without a bound
pub ends_object : (class : ℕ) (ss : List Scope) (r : Reach) → r.bounds ≡ 0 → r.dims ≡ Some 0 → r.class ≡ class → r.parts ≡ None → IsEndOf (Some r) class None ss
ends_object class ss r b d c p = λ n. record {
  before = λ l. absurd (omega (arith, b, l));
  behind = λ k l e. same-end 0 k class r.class None r.parts (some-same 0 k (sym d ∙ e)) c p;
}

name-ends : (class : ℕ) (b : TypeText) (ss : List Scope) (r : Reach) → variable_of b.parts ss ≡ None → r.bounds ≡ 1 → r.dims ≡ Some b.dims → r.class ≡ class → r.parts ≡ Some b.parts → (n : ℕ) → EndsSo n r (from_bound n class (Some b) ss)
name-ends class b ss r v o d c p zero = record {
  before = λ l. bound-zero class b ss;
  behind = λ k l e. absurd (omega (arith, o, l));
}
name-ends class b ss r v o d c p (suc n) = record {
  before = λ l. absurd (omega (arith, o, l));
  behind = λ k l e. bound-name n class b ss v ∙ same-end b.dims k class r.class (Some b.parts) r.parts (some-same b.dims k (sym d ∙ e)) c p;
}

-- a variable whose bound is no variable
pub ends_name : (class : ℕ) (b : TypeText) (ss : List Scope) (r : Reach) → variable_of b.parts ss ≡ None → r.bounds ≡ 1 → r.dims ≡ Some b.dims → r.class ≡ class → r.parts ≡ Some b.parts → IsEndOf (Some r) class (Some b) ss
ends_name class b ss r v o d c p = λ n. name-ends class b ss r v o d c p n

further-ends : (class : ℕ) (b : TypeText) (ss : List Scope) (f : Found) (next r : Reach) → variable_of b.parts ss ≡ Some f → IsEndOf (Some next) f.class f.bound f.scopes → IsFurther next b.dims r → (n : ℕ) → EndsSo n r (from_bound n class (Some b) ss)
further-ends class b ss f next r v h w zero = record {
  before = λ l. bound-zero class b ss;
  behind = λ k l e. absurd (omega (arith, w.bounds, l));
}
further-ends class b ss f next r v h w (suc n) =
    let t : EndsSo n next (from_bound n f.class f.bound f.scopes) = h n in
    record {
      before = λ l. let m : n < next.bounds = omega (arith, w.bounds, l) in bound-found n class b ss f v ∙ ap (more_dims b.dims) (t.before m);
      behind = λ k l e.
          let s : (b.dims ≤ k) × (next.dims ≡ Some (k - b.dims)) = w.sum k e in
          let m : next.bounds ≤ n = omega (arith, w.bounds, l) in
          let z : b.dims + (k - b.dims) ≡ k = omega (arith, s.0) in
          bound-found n class b ss f v ∙ (ap (more_dims b.dims) (t.behind (k - b.dims) m s.1) ∙ same-end (b.dims + (k - b.dims)) k next.class r.class next.parts r.parts z w.class w.parts);
    }

-- a variable whose bound is one that ends
pub ends_further : (class : ℕ) (b : TypeText) (ss : List Scope) (ends : List (Option Reach)) (next r : Reach) → NextIs ss ends b.parts (Some next) → IsFurther next b.dims r → IsEndOf (Some r) class (Some b) ss
ends_further class b ss ends next r m w = λ n. further-ends class b ss m.next next r m.found m.is w n

-- a variable of which nothing can be told never ends
never-ends : (ss : List Scope) (ends : List (Option Reach)) → IsClosed ss ends (length ends) → (n class place : ℕ) (bound : Option TypeText) → StandsAt ss 0 place class bound → slice_get ends place ≡ Some None → from_bound n class bound ss ≡ None
never-ends ss ends c zero class place bound s e =
    let on = c.each class place bound (slice_get_within ends place None e) s e in
    ap (λ (q : Option TypeText). from_bound 0 class q ss) on.is ∙ bound-zero class on.type ss
never-ends ss ends c (suc n) class place bound s e =
    let on = c.each class place bound (slice_get_within ends place None e) s e in
    let f : Found = on.next.next in
    let more : from_bound n f.class f.bound f.scopes ≡ None = elim on.next.is [
      | inl u ↦ ap (from_bound n f.class f.bound) u.scopes ∙ never-ends ss ends c n f.class u.place f.bound u.stands u.untold
      | inr h ↦ h n
    ] in
    ap (λ (q : Option TypeText). from_bound (suc n) class q ss) on.is ∙ (bound-found n class on.type ss f on.next.found ∙ ap (more_dims on.type.dims) more)

told-or-never : (ss : List Scope) (ends : List (Option Reach)) → AreTold ss ends → IsClosed ss ends (length ends) → (class place : ℕ) (bound : Option TypeText) (r : Option Reach) → StandsAt ss 0 place class bound → slice_get ends place ≡ Some r → IsEndOf r class bound ss
told-or-never ss ends t c class place bound None s e = λ n. never-ends ss ends c n class place bound s e
told-or-never ss ends t c class place bound (Some r) s e = t.each class place bound r s e

pub all_told : (ss : List Scope) (ends : List (Option Reach)) → AreTold ss ends → IsClosed ss ends (length ends) → AreEnds ss ends
all_told ss ends t c = record { each = told-or-never ss ends t c }

pub ends_told : (ss : List Scope) (ends : List (Option Reach)) → AreEnds ss ends → AreTold ss ends
ends_told ss ends h = record { each = λ class place bound r s e. h.each class place bound (Some r) s e }

-- with no scope there is nothing to tell
pub no_scopes : (ss : List Scope) (ends : List (Option Reach)) → slice_get ss 0 ≡ None → AreEnds ss ends
no_scopes ss ends none = record { each = λ class place bound r s e. absurd (let h : None ≡ Some s.scope = sym none ∙ s.there in cc) }

none-told : (ends : List (Option Reach)) (place : ℕ) (r : Reach) → All (λ (t : Option Reach). t ≡ None) ends → slice_get ends place ≡ Some (Some r) → ⊥
none-told ends place r h e =
    let x : get_or ends place None ≡ Some r = get_or_from_slice_get ends place (Some r) None e in
    let y : get_or ends place None ≡ None = All-get_or (λ (t : Option Reach). t ≡ None) ends place None (slice_get_within ends place (Some r) e) h in
    let z : None ≡ Some r = sym y ∙ x in
    cc

pub nothing_told : (ss : List Scope) (ends : List (Option Reach)) → All (λ (t : Option Reach). t ≡ None) ends → AreTold ss ends
nothing_told ss ends h = record { each = λ class place bound r s e. absurd (none-told ends place r h e) }

-- a variable stands at a place with one class and one bound
pub stands_alike : (ss : List Scope) (place class : ℕ) (bound : Option TypeText) (first : Scope) (b : Option TypeText) → StandsAt ss 0 place class bound → slice_get ss 0 ≡ Some first → bound_at first.vars (Some place) ≡ Some b → (class ≡ first.class) × (bound ≡ b)
stands_alike ss place class bound first b s f e =
    let same : Some s.scope ≡ Some first = sym s.there ∙ f in
    let q : s.scope ≡ first = cc in
    let x : Some bound ≡ Some b = sym s.bound_is ∙ (ap (λ (y : Scope). bound_at y.vars (Some place)) q ∙ e) in
    (s.class_is ∙ ap (λ (y : Scope). y.class) q, let z : bound ≡ b = cc in z)

set-cases : {A : Type 0} (xs : List A) (i k : ℕ) (y z : A) → slice_get (set xs i y) k ≡ Some z → ((i ≡ k) × (y ≡ z)) ⊎ (slice_get xs k ≡ Some z)
set-cases [] i k y z e = inr e
set-cases (x ∷ xs) zero zero y z e = inl (refl, let q : y ≡ z = cc in q)
set-cases (x ∷ xs) zero (suc k) y z e = inr e
set-cases (x ∷ xs) (suc i) zero y z e = inr e
set-cases (x ∷ xs) (suc i) (suc k) y z e = elim (set-cases xs i k y z e) [ inl h ↦ inl (ap suc h.0, h.1) | inr h ↦ inr h ]

-- what is told of one more variable
pub told_more : (ss : List Scope) (ends : List (Option Reach)) (place : ℕ) (first : Scope) (b : Option TypeText) (r : Reach) → AreTold ss ends → slice_get ss 0 ≡ Some first → bound_at first.vars (Some place) ≡ Some b → IsEndOf (Some r) first.class b ss → AreTold ss (set ends place (Some r))
told_more ss ends place first b r t f v h = record {
  each = λ class p bound q s e. elim (set-cases ends place p (Some r) (Some q) e) [
    | inr old ↦ t.each class p bound q s old
    | inl new ↦
        let here : bound_at first.vars (Some p) ≡ Some b = ap (λ (k : ℕ). bound_at first.vars (Some k)) (sym new.0) ∙ v in
        let alike = stands_alike ss p class bound first b s f here in
        let told : r ≡ q = let w : Some r ≡ Some q = new.1 in cc in
        let P : Reach → Type 0 = λ x. IsEndOf (Some x) class bound ss in
        let C : ℕ → Type 0 = λ x. IsEndOf (Some r) x bound ss in
        let B : Option TypeText → Type 0 = λ x. IsEndOf (Some r) first.class x ss in
        subst P told (subst C (sym alike.0) (subst B (sym alike.1) h))
  ];
}

get-drop : {A : Type 0} (xs : List A) (k : ℕ) → slice_get (drop k xs) 0 ≡ slice_get xs k
get-drop [] zero = refl
get-drop [] (suc k) = refl
get-drop (x ∷ xs) zero = refl
get-drop (x ∷ xs) (suc k) = get-drop xs k

-- a variable of the first scope
pub next_here : (ss : List Scope) (own : List (Option Reach)) (parts : List (List ℕ)) (level place class : ℕ) (bound : Option TypeText) (r : Option Reach) → level ≡ 0 → variable_of parts ss ≡ Some (record { bound = bound; class = class; scopes = drop level ss }) → StandsAt ss level place class bound → AreTold ss own → slice_get own place ≡ Some r → NextIs ss own parts r
next_here ss own parts level place class bound r z f s t e =
    let all : drop level ss ≡ ss = ap (λ (k : ℕ). drop k ss) z in
    let here : StandsAt ss 0 place class bound = let P : ℕ → Type 0 = λ k. StandsAt ss k place class bound in subst P z s in
    record { next = record { bound = bound; class = class; scopes = drop level ss }; found = f; is = told-here ss own level place class bound r all here t e }
  where
    told-here : (ss : List Scope) (own : List (Option Reach)) (level place class : ℕ) (bound : Option TypeText) (r : Option Reach) → drop level ss ≡ ss → StandsAt ss 0 place class bound → AreTold ss own → slice_get own place ≡ Some r → IsNext ss own (record { bound = bound; class = class; scopes = drop level ss }) r
    told-here ss own level place class bound None all here t e = inl (record { place = place; stands = here; untold = e; scopes = all })
    told-here ss own level place class bound (Some r) all here t e =
        let P : List Scope → Type 0 = λ x. IsEndOf (Some r) class bound x in
        subst P (sym all) (t.each class place bound r here e)

-- a variable of a scope further out
pub next_there : (ss : List Scope) (own : List (Option Reach)) (tables : List (List (Option Reach))) (parts : List (List ℕ)) (level place class : ℕ) (bound : Option TypeText) (ends : List (Option Reach)) (r : Option Reach) → 0 < level → variable_of parts ss ≡ Some (record { bound = bound; class = class; scopes = drop level ss }) → StandsAt ss level place class bound → AreToldOutside ss tables → slice_get tables class ≡ Some ends → slice_get ends place ≡ Some r → NextIs ss own parts r
next_there ss own tables parts level place class bound ends r l f s t at e =
    let there : StandsAt (drop level ss) 0 place class bound = record { scope = s.scope; there = get-drop ss level ∙ s.there; class_is = s.class_is; bound_is = s.bound_is } in
    let told : AreEnds (drop level ss) ends = t.each level s.scope ends l s.there (ap (slice_get tables) (sym s.class_is) ∙ at) in
    record { next = record { bound = bound; class = class; scopes = drop level ss }; found = f; is = told-there ss own level class bound r (told.each class place bound r there e) }
  where
    told-there : (ss : List Scope) (own : List (Option Reach)) (level class : ℕ) (bound : Option TypeText) (r : Option Reach) → IsEndOf r class bound (drop level ss) → IsNext ss own (record { bound = bound; class = class; scopes = drop level ss }) r
    told-there ss own level class bound None h = inr h
    told-there ss own level class bound (Some r) h = h

-- a bound is a variable of which nothing is told
pub leads_on : (ss : List Scope) (own : List (Option Reach)) (b : TypeText) → NextIs ss own b.parts None → LeadsOn ss own (Some b)
leads_on ss own b n = record { type = b; is = refl; next = n }

-- the end of a type that is no variable
pub end_name : (ss : List Scope) (class d : ℕ) (kind : TypeText) → variable_of kind.parts ss ≡ None → Some kind.dims ≡ Some d → end_at d class (Some kind.parts) ≡ end_of ss class kind
end_name ss class d kind v e =
    let t = through-name (variables ss) class kind.parts ss v in
    let z : d ≡ kind.dims + 0 = some-same d kind.dims (sym e) ∙ sym (add-zero kind.dims) in
    ap (λ (k : ℕ). end_at k class (Some kind.parts)) z ∙ ap (end_with kind.dims class) (sym t)

-- the end of one that is a variable that ends
pub end_reached : (ss : List Scope) (own : List (Option Reach)) (class d steps : ℕ) (kind : TypeText) (w : Reach) (dims : Option ℕ) → NextIs ss own kind.parts (Some w) → steps ≡ suc (variables ss) → w.bounds < steps → IfSome dims (λ sum. (kind.dims ≤ sum) × (w.dims ≡ Some (sum - kind.dims))) → dims ≡ Some d → end_at d w.class w.parts ≡ end_of ss class kind
end_reached ss own class d steps kind w dims n st l h e =
    let P : Option ℕ → Type 0 = λ o. IfSome o (λ sum. (kind.dims ≤ sum) × (w.dims ≡ Some (sum - kind.dims))) in
    let s : (kind.dims ≤ d) × (w.dims ≡ Some (d - kind.dims)) = subst P e h in
    let f : Found = n.next in
    let t : EndsSo (variables ss) w (from_bound (variables ss) f.class f.bound f.scopes) = n.is (variables ss) in
    let m : w.bounds ≤ variables ss = omega (arith, st, l) in
    let z : d ≡ kind.dims + (d - kind.dims) = omega (arith, s.0) in
    ap (λ (k : ℕ). end_at k w.class w.parts) z ∙ ap (end_with kind.dims class) (sym (through-found (variables ss) class kind.parts ss f n.found ∙ t.behind (d - kind.dims) m s.1))

end-none : (ss : List Scope) (class d : ℕ) (kind : TypeText) → through (suc (variables ss)) class kind.parts ss ≡ None → Some kind.dims ≡ Some d → end_at d class None ≡ end_of ss class kind
end-none ss class d kind t e = ap (λ (k : ℕ). end_at k class None) (some-same d kind.dims (sym e)) ∙ ap (end_with kind.dims class) (sym t)

-- the end of one that is a variable that never ends
pub end_never : (ss : List Scope) (own : List (Option Reach)) (class d : ℕ) (kind : TypeText) → AreEnds ss own → NextIs ss own kind.parts None → Some kind.dims ≡ Some d → end_at d class None ≡ end_of ss class kind
end_never ss own class d kind h n e =
    let f : Found = n.next in
    let more : from_bound (variables ss) f.class f.bound f.scopes ≡ None = elim n.is [
      | inl u ↦ ap (from_bound (variables ss) f.class f.bound) u.scopes ∙ h.each f.class u.place f.bound None u.stands u.untold (variables ss)
      | inr g ↦ g (variables ss)
    ] in
    end-none ss class d kind (through-found (variables ss) class kind.parts ss f n.found ∙ more) e

-- the end of one that ends after more bounds than there are variables
pub end_late : (ss : List Scope) (own : List (Option Reach)) (class d steps : ℕ) (kind : TypeText) (w : Reach) → NextIs ss own kind.parts (Some w) → steps ≡ suc (variables ss) → steps ≤ w.bounds → Some kind.dims ≡ Some d → end_at d class None ≡ end_of ss class kind
end_late ss own class d steps kind w n st l e =
    let f : Found = n.next in
    let t : EndsSo (variables ss) w (from_bound (variables ss) f.class f.bound f.scopes) = n.is (variables ss) in
    end-none ss class d kind (through-found (variables ss) class kind.parts ss f n.found ∙ t.before (let m : variables ss < w.bounds = omega (arith, st, l) in m)) e

-- a place of the first scope that has no variable
pub stands_not : (ss : List Scope) (place class : ℕ) (bound : Option TypeText) (first : Scope) → StandsAt ss 0 place class bound → slice_get ss 0 ≡ Some first → bound_at first.vars (Some place) ≡ None → ⊥
stands_not ss place class bound first s f e =
    let same : Some s.scope ≡ Some first = sym s.there ∙ f in
    let q : s.scope ≡ first = cc in
    let x : Some bound ≡ None = sym s.bound_is ∙ (ap (λ (y : Scope). bound_at y.vars (Some place)) q ∙ e) in
    cc

-- a bound at which nothing more can be told is that of the variable there
pub leads_at : (ss : List Scope) (own : List (Option Reach)) (place class : ℕ) (bound : Option TypeText) (first : Scope) (b : Option TypeText) → LeadsOn ss own b → StandsAt ss 0 place class bound → slice_get ss 0 ≡ Some first → bound_at first.vars (Some place) ≡ Some b → LeadsOn ss own bound
leads_at ss own place class bound first b l s f e =
    let P : Option TypeText → Type 0 = λ x. LeadsOn ss own x in
    subst P (sym (stands_alike ss place class bound first b s f e).1) l

pub closed_none : (ss : List Scope) (own : List (Option Reach)) → IsClosed ss own 0
closed_none ss own = record { each = λ class p bound l s e. absurd (omega (arith, l)) }

pub closed_on : (ss : List Scope) (own : List (Option Reach)) (i : ℕ) → ((class : ℕ) (bound : Option TypeText) → StandsAt ss 0 i class bound → slice_get own i ≡ Some None → LeadsOn ss own bound) → IsClosed ss own i → IsClosed ss own (i + 1)
closed_on ss own i h t = record {
  each = λ class p bound l s e. elim (cases_lt p i) [
    | inl below ↦ t.each class p bound below s e
    | inr above ↦
        let q : p ≡ i = omega (arith, l, above) in
        let S : ℕ → Type 0 = λ k. StandsAt ss 0 k class bound in
        h class bound (subst S q s) (ap (slice_get own) (sym q) ∙ e)
  ];
}

pub closed_end : (ss : List Scope) (own : List (Option Reach)) (i n : ℕ) → n ≤ i → IsClosed ss own i → IsClosed ss own n
closed_end ss own i n m t = record { each = λ class p bound l s e. let k : p < i = omega (arith, l, m) in t.each class p bound k s e }
