-- Canonical names made one by one, each from that of the outer class before it.
use Rattle.std.proofs.Common.{◌≡◌, ◌∙◌, ap, sym, subst, refl, arith, ℕ, zero, suc, ◌+◌, ◌<◌, Bool, true, false, cond, List, [], ◌∷◌, ◌++◌, length, length-append, slice_get, bytes_eq, Option, Some, None, IfSome, Result, Ok, Err, IfOk, inl, inr, ◌⊎◌}
use Rattle.known_classes.specs.declared.summary.ClassSummary.{ClassSummary}
use Rattle.known_classes.specs.Known.{class_named, nesting_at, outer_in, simple_in, outer_of, comes_to, cycles, dotted, nested_name, canonical, HasEachOnce, IsPlaceOf}
use Rattle.known_classes.specs.NameTables.{AreCanonicalNames, IsClosedBelow, IsNextName}
use Rattle.known_classes.proofs.Merging.{two, class-none, class-hit, class-on, class-name, class-there}
use Rattle.known_classes.proofs.Ways.{differs}
use Rattle.known_classes.proofs.CanonicalLaws.{equation}
use Rattle.known_classes.proofs.MergedPlaces.{there}
use Rattle.known_classes.proofs.MemberLemmas.{get-prefix, get-next}
use Rattle.known_classes.proofs.NumberTables.{some-there}

pub last-or : (j n : ℕ) → j < n + 1 → (j < n) ⊎ (j ≡ n)
last-or zero zero l = inr refl
last-or zero (suc n) l = inl (omega arith)
last-or (suc j) zero l = absurd (omega (arith, l))
last-or (suc j) (suc n) l = elim (last-or j n (omega (arith, l))) [ inl b ↦ inl (omega (arith, b)) | inr e ↦ inr (ap suc e) ]

-- a class of a list by its name
pub named-place : (cs : List ClassSummary) (n : List ℕ) (d : ClassSummary) → class_named cs n ≡ Some d → (j : ℕ) × (slice_get cs j ≡ Some d)
named-place [] n d e = let z : class_named [] n ≡ None = class-none n in absurd cc
named-place (c ∷ cs) n d e = elim (two (bytes_eq n c.name)) [
  | inl t ↦ (zero, sym (class-hit c cs n t) ∙ e)
  | inr f ↦ let p = named-place cs n d (sym (class-on c cs n f) ∙ e) in (suc p.0, p.1)
]

-- where no name stands twice, a class is found by its name
pub named_at : (cs : List ClassSummary) (i : ℕ) (c : ClassSummary) → HasEachOnce cs → slice_get cs i ≡ Some c → class_named cs c.name ≡ Some c
named_at cs i c h e =
    let d = some-there (class_named cs c.name) (class-there cs i c e) in
    let p = named-place cs c.name d.0 d.1 in
    let q : p.0 ≡ i = h.once p.0 i d.0 c p.1 e (class-name cs c.name d.0 d.1) in
    d.1 ∙ sym p.1 ∙ ap (slice_get cs) q ∙ e

pub outer_at : (cs : List ClassSummary) (i : ℕ) (d : ClassSummary) → HasEachOnce cs → slice_get cs i ≡ Some d → outer_of cs d.name ≡ outer_in d.nesting
outer_at cs i d once g = ap (λ o. outer_in (nesting_at o)) (named_at cs i d once g)

-- the way outwards from a class before a place comes to no class at that place
pub end-none : (k : ℕ) (cs : List ClassSummary) (n : List ℕ) → comes_to k cs n None ≡ false
unfolding comes_to
end-none zero cs n = refl
end-none (suc k) cs n = refl

no-some : (o : Option ClassSummary) (d : ClassSummary) → o ≡ None → o ≡ Some d → ⊥
no-some o d e f = let q : None ≡ Some d = sym e ∙ f in absurd cc

-- an outer class that isn't known
pub unknown_end : (k : ℕ) (cs : List ClassSummary) (i : ℕ) (e : ClassSummary) (o : List ℕ) → HasEachOnce cs → slice_get cs i ≡ Some e → class_named cs o ≡ None → comes_to k cs e.name (Some o) ≡ false
unfolding comes_to
unknown_end zero cs i e o once g h = refl
unknown_end (suc k) cs i e o once g h =
    ap (λ b. cond b true (comes_to k cs e.name (outer_of cs o))) (differs e.name o (λ q. no-some (class_named cs o) e h (subst (λ x. class_named cs x ≡ Some e) q (named_at cs i e once g))))
    ∙ ap (comes_to k cs e.name) (ap (λ c. outer_in (nesting_at c)) h) ∙ end-none k cs e.name

-- the outer class of a class before the place, known or not
never-known : (k : ℕ) (cs : List ClassSummary) (place : ℕ) (e : ClassSummary) → HasEachOnce cs → IsClosedBelow cs place → slice_get cs place ≡ Some e → ((q : ℕ) (y : ClassSummary) → q < place → slice_get cs q ≡ Some y → comes_to k cs e.name (Some y.name) ≡ false) → (j : ℕ) (x : ClassSummary) → j < place → slice_get cs j ≡ Some x → (o : List ℕ) (d : Option ClassSummary) → outer_in x.nesting ≡ Some o → class_named cs o ≡ d → comes_to k cs e.name (Some o) ≡ false
never-known k cs place e once h g f j x l at o None out d = unknown_end k cs place e o once g d
never-known k cs place e once h g f j x l at o (Some y) out d =
    let n : y.name ≡ o = class-name cs o y d in
    let p = named-place cs o y d in
    let b = h j p.0 x y l at (out ∙ ap Some (sym n)) p.1 in
    subst (λ z. comes_to k cs e.name (Some z) ≡ false) n (f p.0 y b p.1)

never-on : (k : ℕ) (cs : List ClassSummary) (place : ℕ) (e : ClassSummary) → HasEachOnce cs → IsClosedBelow cs place → slice_get cs place ≡ Some e → ((q : ℕ) (y : ClassSummary) → q < place → slice_get cs q ≡ Some y → comes_to k cs e.name (Some y.name) ≡ false) → (j : ℕ) (x : ClassSummary) → j < place → slice_get cs j ≡ Some x → (o : Option (List ℕ)) → outer_in x.nesting ≡ o → comes_to k cs e.name o ≡ false
never-on k cs place e once h g f j x l at None out = end-none k cs e.name
never-on k cs place e once h g f j x l at (Some o) out = never-known k cs place e once h g f j x l at o (class_named cs o) out refl

pub never : (k : ℕ) (cs : List ClassSummary) (place : ℕ) (e : ClassSummary) → HasEachOnce cs → IsClosedBelow cs place → slice_get cs place ≡ Some e → (j : ℕ) (x : ClassSummary) → j < place → slice_get cs j ≡ Some x → comes_to k cs e.name (Some x.name) ≡ false
unfolding comes_to
never zero cs place e once h g j x l at = refl
never (suc k) cs place e once h g j x l at =
    ap (λ b. cond b true (comes_to k cs e.name (outer_of cs x.name))) (differs e.name x.name (λ q. let s = once.once place j e x g at q in omega (arith, s, l)))
    ∙ ap (comes_to k cs e.name) (outer_at cs j x once at)
    ∙ never-on k cs place e once h g (λ q y b i. never k cs place e once h g q y b i) j x l at (outer_in x.nesting) refl

-- an outer class that isn't known, or stands before the place
pub IsBefore : List ClassSummary → ℕ → List ℕ → Type 0
IsBefore cs place outer = (q : ℕ) (d : ClassSummary) → slice_get cs q ≡ Some d → d.name ≡ outer → q < place

outer-never : (k : ℕ) (cs : List ClassSummary) (place : ℕ) (e : ClassSummary) → HasEachOnce cs → IsClosedBelow cs place → slice_get cs place ≡ Some e → (outer : List ℕ) → IsBefore cs place outer → (d : Option ClassSummary) → class_named cs outer ≡ d → comes_to k cs e.name (Some outer) ≡ false
unfolding IsBefore
outer-never k cs place e once h g outer b None d = unknown_end k cs place e outer once g d
outer-never k cs place e once h g outer b (Some y) d =
    let n : y.name ≡ outer = class-name cs outer y d in
    let p = named-place cs outer y d in
    subst (λ z. comes_to k cs e.name (Some z) ≡ false) n (never k cs place e once h g p.0 y (b p.0 y p.1 n) p.1)

no-cycle-at : (cs : List ClassSummary) (place : ℕ) (e : ClassSummary) → HasEachOnce cs → IsClosedBelow cs place → slice_get cs place ≡ Some e → (outer : List ℕ) → outer_in e.nesting ≡ Some outer → IsBefore cs place outer → cycles cs e.name ≡ false
no-cycle-at cs place e once h g outer o b =
    ap (comes_to (length cs) cs e.name) (outer_at cs place e once g ∙ o) ∙ outer-never (length cs) cs place e once h g outer b (class_named cs outer) refl

-- the canonical name of a class by its own nesting
pub both-dotted : (b : Bool) (xs : List ℕ) → cond b xs xs ≡ xs
both-dotted true xs = refl
both-dotted false xs = refl

pub equation-at : (cs : List ClassSummary) (i : ℕ) (c : ClassSummary) → HasEachOnce cs → slice_get cs i ≡ Some c → canonical cs c.name ≡ cond (cycles cs c.name) (dotted c.name) (nested_name (outer_in c.nesting) (simple_in c.nesting) (canonical cs) (dotted c.name))
equation-at cs i c once g = equation cs c.name ∙ ap (λ o. cond (cycles cs c.name) (dotted c.name) (nested_name (outer_in (nesting_at o)) (simple_in (nesting_at o)) (canonical cs) (dotted c.name))) (named_at cs i c once g)

pub no-simple : (o : Option (List ℕ)) (f : List ℕ → List ℕ) (own : List ℕ) → nested_name o None f own ≡ own
no-simple None f own = refl
no-simple (Some x) f own = refl

-- a class that stands in none
pub next_top : (cs : List ClassSummary) (place : ℕ) (c : ClassSummary) (text : List ℕ) → HasEachOnce cs → slice_get cs place ≡ Some c → outer_in c.nesting ≡ None → IsClosedBelow cs place → text ≡ dotted c.name → IsNextName cs place text
next_top cs place c text once g o h t = record {
  named = λ d e.
      let q : c ≡ d = (let r : Some c ≡ Some d = sym g ∙ e in cc) in
      t ∙ sym (both-dotted (cycles cs c.name) (dotted c.name)) ∙ sym (equation-at cs place c once g ∙ ap (λ x. cond (cycles cs c.name) (dotted c.name) (nested_name x (simple_in c.nesting) (canonical cs) (dotted c.name))) o) ∙ ap (λ (x : ClassSummary). canonical cs x.name) q;
  closed = λ j q x d l at out by. elim (last-or j place l) [
    | inl b ↦ let r = h j q x d b at out by in omega (arith, r)
    | inr s ↦ let r : Some x ≡ Some c = sym at ∙ ap (slice_get cs) s ∙ g in let y : x ≡ c = cc in absurd (let z : None ≡ Some d.name = sym o ∙ ap (λ (w : ClassSummary). outer_in w.nesting) (sym y) ∙ out in cc)
  ];
}

closed-on : (cs : List ClassSummary) (place : ℕ) (c : ClassSummary) (outer : List ℕ) → slice_get cs place ≡ Some c → outer_in c.nesting ≡ Some outer → IsBefore cs place outer → IsClosedBelow cs place → IsClosedBelow cs (place + 1)
unfolding IsBefore
closed-on cs place c outer g o b h j q x d l at out by = elim (last-or j place l) [
  | inl n ↦ let r = h j q x d n at out by in omega (arith, r)
  | inr s ↦
      let r : Some x ≡ Some c = sym at ∙ ap (slice_get cs) s ∙ g in
      let y : x ≡ c = cc in
      let z : Some d.name ≡ Some outer = sym out ∙ ap (λ (w : ClassSummary). outer_in w.nesting) y ∙ o in
      let n : d.name ≡ outer = cc in
      let r = b q d by n in omega (arith, r)
]

-- a class with an outer class before it, and no simple name
pub next_plain : (cs : List ClassSummary) (place : ℕ) (c : ClassSummary) (outer text : List ℕ) → HasEachOnce cs → slice_get cs place ≡ Some c → outer_in c.nesting ≡ Some outer → simple_in c.nesting ≡ None → IsBefore cs place outer → IsClosedBelow cs place → text ≡ dotted c.name → IsNextName cs place text
next_plain cs place c outer text once g o s b h t = record {
  named = λ d e.
      let q : c ≡ d = (let r : Some c ≡ Some d = sym g ∙ e in cc) in
      t ∙ sym (both-dotted (cycles cs c.name) (dotted c.name)) ∙ sym (equation-at cs place c once g ∙ ap (cond (cycles cs c.name) (dotted c.name)) (ap (λ x. nested_name (outer_in c.nesting) x (canonical cs) (dotted c.name)) s ∙ no-simple (outer_in c.nesting) (canonical cs) (dotted c.name))) ∙ ap (λ (x : ClassSummary). canonical cs x.name) q;
  closed = closed-on cs place c outer g o b h;
}

-- a class with an outer class before it, and a simple name
pub next_nested : (cs : List ClassSummary) (place : ℕ) (c : ClassSummary) (outer simple prefix text : List ℕ) → HasEachOnce cs → slice_get cs place ≡ Some c → outer_in c.nesting ≡ Some outer → simple_in c.nesting ≡ Some simple → IsBefore cs place outer → IsClosedBelow cs place → prefix ≡ canonical cs outer → text ≡ prefix ++ 46 ∷ simple → IsNextName cs place text
next_nested cs place c outer simple prefix text once g o s b h f t = record {
  named = λ d e.
      let q : c ≡ d = (let r : Some c ≡ Some d = sym g ∙ e in cc) in
      t ∙ ap (λ x. x ++ 46 ∷ simple) f
      ∙ sym (equation-at cs place c once g
      ∙ ap (λ x. cond x (dotted c.name) (nested_name (outer_in c.nesting) (simple_in c.nesting) (canonical cs) (dotted c.name))) (no-cycle-at cs place c once h g outer o b)
      ∙ ap (λ x. nested_name x (simple_in c.nesting) (canonical cs) (dotted c.name)) o
      ∙ ap (λ x. nested_name (Some outer) x (canonical cs) (dotted c.name)) s)
      ∙ ap (λ (x : ClassSummary). canonical cs x.name) q;
  closed = closed-on cs place c outer g o b h;
}

-- what a look for the outer class answers
pub before_by : (cs : List ClassSummary) (place : ℕ) (outer : List ℕ) (around : Option ℕ) → HasEachOnce cs → IsPlaceOf cs (class_named cs outer) around → IfSome around (λ q. q < place) → IsBefore cs place outer
unfolding IsBefore
before_by cs place outer None once h l q d g n = absurd (no-some (class_named cs outer) d h (subst (λ x. class_named cs x ≡ Some d) n (named_at cs q d once g)))
before_by cs place outer (Some p) once h l q d g n =
    let at : slice_get cs p ≡ Some d = sym h.1 ∙ subst (λ x. class_named cs x ≡ Some d) n (named_at cs q d once g) in
    let s = once.once p q d d at g refl in
    omega (arith, s, l)

pub found_before : (cs : List ClassSummary) (place : ℕ) (outer : List ℕ) (around : ℕ) → IsBefore cs place outer → IsPlaceOf cs (class_named cs outer) (Some around) → around < place
unfolding IsBefore
found_before cs place outer around b h =
    let p = there cs around h.0 in
    b around p.0 p.1 (class-name cs outer p.0 (h.1 ∙ p.1))

-- a name that isn't known
pub unknown_dotted : (cs : List ClassSummary) (outer text : List ℕ) → class_named cs outer ≡ None → text ≡ dotted outer → text ≡ canonical cs outer
unknown_dotted cs outer text h t =
    t ∙ sym (both-dotted (cycles cs outer) (dotted outer)) ∙ sym (equation cs outer ∙ ap (λ o. cond (cycles cs outer) (dotted outer) (nested_name (outer_in (nesting_at o)) (simple_in (nesting_at o)) (canonical cs) (dotted outer))) h)

-- the class at the place that a look gives
pub found_class : (cs : List ClassSummary) (outer : List ℕ) (around : ℕ) → IsPlaceOf cs (class_named cs outer) (Some around) → (d : ClassSummary) × (slice_get cs around ≡ Some d) × (d.name ≡ outer)
found_class cs outer around h = let p = there cs around h.0 in (p.0, p.1, class-name cs outer p.0 (h.1 ∙ p.1))

pub names_none : (cs : List ClassSummary) (from place : ℕ) (texts : List (List ℕ)) → texts ≡ [] → from ≡ place → AreCanonicalNames cs from place texts
names_none cs from place texts e f = record {
  size = let z : length texts ≡ 0 = ap length e in omega (arith, z, f);
  each = λ i c l g. let z : length texts ≡ 0 = ap length e in absurd (omega (arith, z, l));
}

pub names_on : (cs : List ClassSummary) (from place : ℕ) (old new : List (List ℕ)) (text : List ℕ) → new ≡ old ++ text ∷ [] → ((c : ClassSummary) → slice_get cs place ≡ Some c → text ≡ canonical cs c.name) → AreCanonicalNames cs from place old → AreCanonicalNames cs from (place + 1) new
names_on cs from place old new text e t h = record {
  size = let s : length new ≡ length old + 1 = ap length e ∙ length-append old (text ∷ []) in omega (arith, s, h.size);
  each = λ i c l g.
      let s : length new ≡ length old + 1 = ap length e ∙ length-append old (text ∷ []) in
      elim (last-or i (length old) (let m = l in omega (arith, m, s))) [
        | inl b ↦ ap (λ (r : List (List ℕ)). slice_get r i) e ∙ get-prefix old (text ∷ []) i b ∙ h.each i c b g
        | inr q ↦
            let at : from + i ≡ place = omega (arith, q, h.size) in
            ap (λ (r : List (List ℕ)). slice_get r i) e ∙ ap (slice_get (old ++ text ∷ [])) q ∙ get-next old text ∙ ap Some (t c (sym (ap (slice_get cs) at) ∙ g))
      ];
}

pub names_end : (cs : List ClassSummary) (from place n : ℕ) (texts : List (List ℕ)) → place ≡ n → AreCanonicalNames cs from place texts → AreCanonicalNames cs from n texts
names_end cs from place n texts e h = subst (λ p. AreCanonicalNames cs from p texts) e h

pub ok_then : {A E : Type 0} (P Q : A → Type 0) (r : Result A E) → IfOk r P → ((x : A) → P x → Q x) → IfOk r Q
ok_then P Q (Ok x) h f = f x h
ok_then P Q (Err e) h f = tt
