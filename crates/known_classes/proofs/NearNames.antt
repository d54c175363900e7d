-- A class whose outer class doesn't reach itself by outer classes doesn't either, and has its name from that one's.
use Rattle.std.proofs.Common.{◌≡◌, ◌∙◌, ap, sym, subst, refl, arith, ℕ, zero, suc, ◌+◌, ◌<◌, true, false, cond, List, [], ◌∷◌, ◌++◌, length, length-append, slice_get, Option, Some, None, IfSome, Result, IfOk, inl, inr, ◌⊎◌}
use Rattle.std.specs.Prelude.{slice_set}
use Rattle.std.proofs.lemmas.List.{length-set}
use Rattle.std.proofs.lemmas.Option.{slice_get_within}
use Rattle.known_classes.specs.declared.summary.ClassSummary.{ClassSummary}
use Rattle.known_classes.specs.Known.{class_named, nesting_at, outer_in, simple_in, outer_of, comes_to, cycles, dotted, nested_name, canonical, HasEachOnce, IsPlaceOf}
use Rattle.known_classes.specs.NameTables.{AreNamed, IsName, IsNameAt}
use Rattle.known_classes.proofs.Merging.{two}
use Rattle.known_classes.proofs.Ways.{no-true, ComesIn, steps-of}
use Rattle.known_classes.proofs.CanonicalLaws.{outwards, back}
use Rattle.known_classes.proofs.MemberLemmas.{get-prefix, get-next}
use Rattle.known_classes.proofs.TextPlaces.{last-or, outer_at, end-none, both-dotted, equation-at, no-simple, unknown_dotted, found_class, ok_then}

-- so many steps from a class lead to the one in which it comes
no-step : (cs : List ClassSummary) (o : Option (List ℕ)) → outwards zero cs o ≡ o
unfolding outwards
no-step cs None = refl
no-step cs (Some x) = refl

comes-out : (k : ℕ) (cs : List ClassSummary) (x : List ℕ) (o : Option (List ℕ)) → ComesIn k cs x o → outwards k cs o ≡ Some x
unfolding outwards ComesIn
comes-out zero cs x o p = no-step cs o ∙ p
comes-out (suc k) cs x o p = ap (outwards (suc k) cs) p.1 ∙ comes-out k cs x (outer_of cs p.0) p.3

one-further : (k : ℕ) (cs : List ClassSummary) (x : List ℕ) (o : Option (List ℕ)) → outwards k cs o ≡ Some x → outwards (suc k) cs o ≡ outer_of cs x
unfolding outwards
one-further k cs x None e = absurd cc
one-further zero cs x (Some y) e = let q : y ≡ x = cc in no-step cs (outer_of cs y) ∙ ap (outer_of cs) q
one-further (suc k) cs x (Some y) e = one-further k cs x (outer_of cs y) e

-- a class that reaches itself has an outer class that does
cycle-by : (k : ℕ) (cs : List ClassSummary) (x y : List ℕ) → outer_of cs x ≡ Some y → ComesIn k cs x (Some y) → cycles cs x ≡ true → cycles cs y ≡ true
unfolding ComesIn
cycle-by zero cs x y o p h = let q : x ≡ y = cc in subst (λ z. cycles cs z ≡ true) q h
cycle-by (suc k) cs x y o p h =
    let q : p.0 ≡ y = (let e = p.1 in cc) in
    let at : ComesIn k cs x (outer_of cs y) = subst (λ z. ComesIn k cs x (outer_of cs z)) q p.3 in
    back (suc k) cs y (one-further k cs x (outer_of cs y) (comes-out k cs x (outer_of cs y) at) ∙ o)

cycle-out : (cs : List ClassSummary) (x y : List ℕ) → outer_of cs x ≡ Some y → cycles cs x ≡ true → cycles cs y ≡ true
cycle-out cs x y o h =
    let s = steps-of (length cs) cs x (outer_of cs x) h in
    cycle-by s.0 cs x y o (subst (ComesIn s.0 cs x) o s.2) h

no-cycle : (cs : List ClassSummary) (x y : List ℕ) → outer_of cs x ≡ Some y → cycles cs y ≡ false → cycles cs x ≡ false
no-cycle cs x y o f = elim (two (cycles cs x)) [ inl t ↦ absurd (no-true (sym f ∙ cycle-out cs x y o t)) | inr e ↦ e ]

no-outer : (cs : List ClassSummary) (x : List ℕ) → outer_of cs x ≡ None → cycles cs x ≡ false
no-outer cs x o = ap (comes_to (length cs) cs x) o ∙ end-none (length cs) cs x

-- a name that isn't known
pub unknown_name : (cs : List ClassSummary) (outer text : List ℕ) → class_named cs outer ≡ None → text ≡ dotted outer → IsName cs outer text
unknown_name cs outer text h t = (unknown_dotted cs outer text h t, no-outer cs outer (ap (λ c. outer_in (nesting_at c)) h))

-- a name that is made for the class of this name
some-then : {A : Type 0} (P Q : A → Type 0) (o : Option A) → IfSome o P → ((x : A) → P x → Q x) → IfSome o Q
some-then P Q None h f = tt
some-then P Q (Some x) h f = f x h

pub around_name : {E : Type 0} (cs : List ClassSummary) (outer : List ℕ) (around : ℕ) (r : Result (Option (List ℕ)) E) → IsPlaceOf cs (class_named cs outer) (Some around) → IfOk r (λ found. IfSome found (λ text. IsNameAt cs around text)) → IfOk r (λ found. IfSome found (λ text. IsName cs outer text))
around_name cs outer around r at h =
    let d = found_class cs outer around at in
    ok_then (λ found. IfSome found (λ text. IsNameAt cs around text)) (λ found. IfSome found (λ text. IsName cs outer text)) r h (λ found s.
    some-then (λ text. IsNameAt cs around text) (λ text. IsName cs outer text) found s (λ text n. subst (λ o. IsName cs o text) d.2 (n d.0 d.1)))

-- the name of a class at a place, by its own nesting
at-place : (cs : List ClassSummary) (place : ℕ) (c : ClassSummary) (text : List ℕ) → slice_get cs place ≡ Some c → IsName cs c.name text → IsNameAt cs place text
at-place cs place c text g h d e = let q : c ≡ d = (let r : Some c ≡ Some d = sym g ∙ e in cc) in subst (λ (x : ClassSummary). IsName cs x.name text) q h

pub near_top : (cs : List ClassSummary) (place : ℕ) (c : ClassSummary) (text : List ℕ) → HasEachOnce cs → slice_get cs place ≡ Some c → outer_in c.nesting ≡ None → text ≡ dotted c.name → IsNameAt cs place text
near_top cs place c text once g o t = at-place cs place c text g (
  t ∙ sym (both-dotted (cycles cs c.name) (dotted c.name)) ∙ sym (equation-at cs place c once g ∙ ap (λ x. cond (cycles cs c.name) (dotted c.name) (nested_name x (simple_in c.nesting) (canonical cs) (dotted c.name))) o),
  no-outer cs c.name (outer_at cs place c once g ∙ o),
)

pub near_plain : (cs : List ClassSummary) (place : ℕ) (c : ClassSummary) (outer prefix text : List ℕ) → HasEachOnce cs → slice_get cs place ≡ Some c → outer_in c.nesting ≡ Some outer → simple_in c.nesting ≡ None → IsName cs outer prefix → text ≡ dotted c.name → IsNameAt cs place text
near_plain cs place c outer prefix text once g o s h t = at-place cs place c text g (
  t ∙ sym (both-dotted (cycles cs c.name) (dotted c.name)) ∙ sym (equation-at cs place c once g ∙ ap (cond (cycles cs c.name) (dotted c.name)) (ap (λ x. nested_name (outer_in c.nesting) x (canonical cs) (dotted c.name)) s ∙ no-simple (outer_in c.nesting) (canonical cs) (dotted c.name))),
  no-cycle cs c.name outer (outer_at cs place c once g ∙ o) h.1,
)

pub near_nested : (cs : List ClassSummary) (place : ℕ) (c : ClassSummary) (outer simple prefix text : List ℕ) → HasEachOnce cs → slice_get cs place ≡ Some c → outer_in c.nesting ≡ Some outer → simple_in c.nesting ≡ Some simple → IsName cs outer prefix → text ≡ prefix ++ 46 ∷ simple → IsNameAt cs place text
near_nested cs place c outer simple prefix text once g o s h t =
    let n : cycles cs c.name ≡ false = no-cycle cs c.name outer (outer_at cs place c once g ∙ o) h.1 in
    at-place cs place c text g (
      t ∙ ap (λ x. x ++ 46 ∷ simple) h.0
          ∙ sym (equation-at cs place c once g
          ∙ ap (λ x. cond x (dotted c.name) (nested_name (outer_in c.nesting) (simple_in c.nesting) (canonical cs) (dotted c.name))) n
          ∙ ap (λ x. nested_name x (simple_in c.nesting) (canonical cs) (dotted c.name)) o
          ∙ ap (λ x. nested_name (Some outer) x (canonical cs) (dotted c.name)) s),
      n,
    )

-- names by place
set-get : {A : Type 0} (xs : List A) (k i : ℕ) (y z : A) → slice_get (slice_set xs k y) i ≡ Some z → ((i ≡ k) × (y ≡ z)) ⊎ (slice_get xs i ≡ Some z)
set-get [] k i y z e = inr e
set-get (x ∷ xs) zero zero y z e = inl (refl, cc)
set-get (x ∷ xs) zero (suc i) y z e = inr e
set-get (x ∷ xs) (suc k) zero y z e = inr e
set-get (x ∷ xs) (suc k) (suc i) y z e = elim (set-get xs k i y z e) [ inl p ↦ inl (ap suc p.0, p.1) | inr q ↦ inr q ]

pub named_none : (cs : List ClassSummary) (named : List (Option (List ℕ))) → named ≡ [] → AreNamed cs 0 named
named_none cs named e = record {
  size = ap length e;
  each = λ i t g. let q : None ≡ Some (Some t) = ap (λ (r : List (Option (List ℕ))). slice_get r i) (sym e) ∙ g in absurd cc;
}

pub named_next : (cs : List ClassSummary) (place : ℕ) (old new : List (Option (List ℕ))) → new ≡ old ++ None ∷ [] → AreNamed cs place old → AreNamed cs (place + 1) new
named_next cs place old new e h =
    let s : length new ≡ length old + 1 = ap length e ∙ length-append old (None ∷ []) in
    record {
      size = omega (arith, s, h.size);
      each = λ i t g.
          let at : slice_get (old ++ None ∷ []) i ≡ Some (Some t) = ap (λ (r : List (Option (List ℕ))). slice_get r i) (sym e) ∙ g in
          let l : i < length new = slice_get_within new i (Some t) g in
          elim (last-or i (length old) (omega (arith, l, s))) [
            | inl b ↦ h.each i t (sym (get-prefix old (None ∷ []) i b) ∙ at)
            | inr q ↦ let z : Some None ≡ Some (Some t) = sym (get-next old None) ∙ ap (slice_get (old ++ None ∷ [])) (sym q) ∙ at in absurd cc
          ];
    }

pub named_end : (cs : List ClassSummary) (place n : ℕ) (named : List (Option (List ℕ))) → place ≡ n → AreNamed cs place named → AreNamed cs n named
named_end cs place n named e h = subst (λ p. AreNamed cs p named) e h

pub named_put : (cs : List ClassSummary) (n k : ℕ) (text : List ℕ) (old new : List (Option (List ℕ))) → new ≡ slice_set old k (Some text) → IsNameAt cs k text → AreNamed cs n old → AreNamed cs n new
named_put cs n k text old new e t h = record {
  size = ap length e ∙ length-set old k (Some text) ∙ h.size;
  each = λ i x g. elim (set-get old k i (Some text) (Some x) (ap (λ (r : List (Option (List ℕ))). slice_get r i) (sym e) ∙ g)) [
    | inl p ↦ let q : text ≡ x = (let r = p.1 in cc) in subst (λ j. IsNameAt cs j x) (sym p.0) (subst (λ y. IsNameAt cs k y) q t)
    | inr q ↦ h.each i x q
  ];
}

-- the name that is made at a place
pub kept_name : (cs : List ClassSummary) (n place : ℕ) (named : List (Option (List ℕ))) (text copy : Option (List ℕ)) → AreNamed cs n named → slice_get named place ≡ Some text → copy ≡ text → IfSome copy (λ t. IsNameAt cs place t)
kept_name cs n place named text None h at e = tt
kept_name cs n place named text (Some t) h at e = h.each place t (at ∙ ap Some (sym e))
