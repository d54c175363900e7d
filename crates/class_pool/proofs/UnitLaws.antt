-- A unit that is read is spelled so, and a spelling is read, whatever follows it.
use Rattle.std.proofs.Common.{◌≡◌, ℕ, zero, suc, ◌+◌, ◌-◌, ◌*◌, ◌<◌, ◌≤◌, ◌&&◌, Bool, true, false, cond, eqb, List, [], ◌∷◌, ◌++◌, length, Option, Some, None, Result, Ok, Err, refl, sym, ap, subst, ◌∙◌, append_assoc, arith, rules, inl, inr, ◌⊎◌}
use Rattle.std.proofs.lemmas.List.{append-nil, length-append, nil_from_length}
use Rattle.std.proofs.lemmas.Bool.{eqb-true}
use Rattle.class_pool.specs.Units.{IsUnit, AreUnits, is_tail, within, two_at, three_at, unit_at, with_unit, units_in, text_in_units, text_of, IsText}
use Rattle.std.specs.Prelude.{IfOk, IfSome}
use Rattle.std.specs.Char.Utf16.{has_unpaired_surrogate, utf16_lossy_chars}
use Rattle.std.specs.Str.{encode_utf8_all}

chosen : {A : Type 0} (b : Bool) (x y z : A) → cond b x y ≡ z → ((b ≡ true) × (x ≡ z)) ⊎ ((b ≡ false) × (y ≡ z))
chosen true x y z e = inl (refl, e)
chosen false x y z e = inr (refl, e)

abbrev some : {A : Type 0} → A → Option A
some x = Some x

some_is : {A : Type 0} (x y : A) → some x ≡ some y → x ≡ y
some_is x y e = cc

in_range : (low high a : ℕ) → within low high a ≡ true → (low ≤ a) × (a < high)
in_range low high a e = (search (rules, e), search (rules, e))

is_in : (low high a : ℕ) → low ≤ a → a < high → within low high a ≡ true
is_in low high a p q = search (rules, p, q)

is_out : (low high a : ℕ) → high ≤ a → within low high a ≡ false
is_out low high a p = search (rules, p)

pub record Prefix (bytes : List ℕ) (x : ℕ × List ℕ) : Type 0 where
  pub prefix : List ℕ
  pub parts : bytes ≡ prefix ++ x.1
  pub is : IsUnit prefix x.0
  pub some : 0 < length prefix

two_takes : (a : ℕ) (rest : List ℕ) (x : ℕ × List ℕ) → within 192 224 a ≡ true → two_at a rest ≡ Some x → Prefix (a ∷ rest) x
two_takes a [] x h e = absurd cc
two_takes a (b ∷ rest) x h e =
    elim (chosen (is_tail b) _ _ (Some x) e) [
      | inl t ↦
          let p = in_range 192 224 a h in let q = in_range 128 192 b t.0 in
          subst (λ (z : ℕ × List ℕ). Prefix (a ∷ b ∷ rest) z) (some_is ((a - 192) * 64 + (b - 128), rest) x t.1) (record { prefix = a ∷ b ∷ []; parts = refl; is = (p.0, p.1, q.0, q.1, refl); some = omega arith })
      | inr t ↦ absurd (no_some x t.1)
    ]
  where
    no_some : (x : ℕ × List ℕ) → None ≡ Some x → ⊥
    no_some x e = cc

three_takes : (a : ℕ) (rest : List ℕ) (x : ℕ × List ℕ) → within 224 240 a ≡ true → three_at a rest ≡ Some x → Prefix (a ∷ rest) x
three_takes a [] x h e = absurd cc
three_takes a (b ∷ []) x h e = absurd cc
three_takes a (b ∷ c ∷ rest) x h e =
    elim (chosen (is_tail b && is_tail c) _ _ (Some x) e) [
      | inl t ↦
          let p = in_range 224 240 a h in let q = in_range 128 192 b (left _ _ t.0) in let r = in_range 128 192 c (right _ _ t.0) in
          subst (λ (z : ℕ × List ℕ). Prefix (a ∷ b ∷ c ∷ rest) z) (some_is ((a - 224) * 4096 + ((b - 128) * 64 + (c - 128)), rest) x t.1) (record { prefix = a ∷ b ∷ c ∷ []; parts = refl; is = (p.0, p.1, q.0, q.1, r.0, r.1, refl); some = omega arith })
      | inr t ↦ absurd (no_some x t.1)
    ]
  where
    no_some : (x : ℕ × List ℕ) → None ≡ Some x → ⊥
    no_some x e = cc

    left : (a b : Bool) → (a && b) ≡ true → a ≡ true
    left true b e = refl
    left false b e = absurd cc

    right : (a b : Bool) → (a && b) ≡ true → b ≡ true
    right true b e = e
    right false b e = absurd cc

pub unit_takes : (bytes : List ℕ) (x : ℕ × List ℕ) → unit_at bytes ≡ Some x → Prefix bytes x
unfolding unit_at
unit_takes [] x e = absurd cc
unit_takes (a ∷ rest) x e =
    elim (chosen (within 1 128 a) _ _ (Some x) e) [
      | inl h ↦ let p = in_range 1 128 a h.0 in subst (λ (z : ℕ × List ℕ). Prefix (a ∷ rest) z) (some_is (a, rest) x h.1) (record { prefix = a ∷ []; parts = refl; is = (p.0, p.1, refl); some = omega arith })
      | inr h ↦ elim (chosen (within 192 224 a) _ _ (Some x) h.1) [
        | inl k ↦ two_takes a rest x k.0 k.1
        | inr k ↦ elim (chosen (within 224 240 a) _ _ (Some x) k.1) [
          | inl m ↦ three_takes a rest x m.0 m.1
          | inr m ↦ absurd (no_some x m.1)
        ]
      ]
    ]
  where
    no_some : (x : ℕ × List ℕ) → None ≡ Some x → ⊥
    no_some x e = cc

pub unit_again : (prefix : List ℕ) (u : ℕ) (rest : List ℕ) → IsUnit prefix u → unit_at (prefix ++ rest) ≡ Some (u, rest)
unfolding unit_at
unit_again [] u rest h = absurd h
unit_again (a ∷ []) u rest h = rw (is_in 1 128 a h.0 h.1, h.2) refl
unit_again (a ∷ b ∷ []) u rest h = rw (is_out 1 128 a (omega (arith, h.0)), is_in 192 224 a h.0 h.1, is_in 128 192 b h.2 h.3, h.4) refl
unit_again (a ∷ b ∷ c ∷ []) u rest h = rw (is_out 1 128 a (omega (arith, h.0)), is_out 192 224 a h.0, is_in 224 240 a h.0 h.1, is_in 128 192 b h.2 h.3, is_in 128 192 c h.4 h.5, h.6) refl
unit_again (a ∷ b ∷ c ∷ d ∷ more) u rest h = absurd h

-- ---- many units
pub record Reads (bytes units rest : List ℕ) : Type 0 where
  pub sound : (us : List ℕ) → AreUnits rest us → AreUnits bytes (units ++ us)
  pub complete : (vs : List ℕ) → AreUnits bytes vs → (us : List ℕ) × (vs ≡ units ++ us) × AreUnits rest us

split : (bytes : List ℕ) (u : ℕ) (next : List ℕ) (vs : List ℕ) → unit_at bytes ≡ Some (u, next) → AreUnits bytes vs → (us : List ℕ) × (vs ≡ u ∷ us) × AreUnits next us
unfolding unit_at
split [] u next vs e h = absurd cc
split (a ∷ more) u next [] e h = absurd cc
split (a ∷ more) u next (v ∷ vs) e h =
    let same = some_is (v, h.1) (u, next) (sym (unit_again h.0 v h.1 h.3) ∙ ap unit_at (sym h.2) ∙ e) in
    (vs, ap (λ (p : ℕ × List ℕ). p.0 ∷ vs) same, subst (λ (r : List ℕ). AreUnits r vs) (ap (λ (p : ℕ × List ℕ). p.1) same) h.4)

pub more : (bytes units rest : List ℕ) (u : ℕ) (next : List ℕ) → unit_at rest ≡ Some (u, next) → Reads bytes units rest → Reads bytes (units ++ (u ∷ [])) next
more bytes units rest u next e r =
    let f = unit_takes rest (u, next) e in
    record {
      sound = λ us h. subst (λ (t : List ℕ). AreUnits bytes t) (sym (append_assoc units (u ∷ []) us)) (r.sound (u ∷ us) (f.prefix, next, f.parts, f.is, h));
      complete = λ vs h.
          let a = r.complete vs h in
          let s = split rest u next a.0 e a.2 in
          (s.0, a.1 ∙ ap (λ (t : List ℕ). units ++ t) s.1 ∙ sym (append_assoc units (u ∷ []) s.0), s.2);
    }

pub shorter : (rest : List ℕ) (u : ℕ) (next : List ℕ) → unit_at rest ≡ Some (u, next) → length next < length rest
shorter rest u next e = let f = unit_takes rest (u, next) e in omega (arith, f.some, ap length f.parts, length-append f.prefix next)

pub stuck : (rest : List ℕ) (us : List ℕ) → 0 < length rest → unit_at rest ≡ None → AreUnits rest us → ⊥
stuck [] us lt e h = absurd (omega (arith, lt))
stuck (a ∷ more) [] lt e h = cc
stuck (a ∷ more) (u ∷ us) lt e h = none_some (u, h.1) (sym e ∙ ap unit_at h.2 ∙ unit_again h.0 u h.1 h.3)
  where
    none_some : (x : ℕ × List ℕ) → None ≡ Some x → ⊥
    none_some x e = cc

not_none : (n : ℕ) → false ≡ eqb n 0 → 0 < n
not_none zero e = absurd cc
not_none (suc n) e = omega arith

empty : (xs : List ℕ) → true ≡ eqb (length xs) 0 → xs ≡ []
empty xs e = nil_from_length xs (eqb-true _ _ (sym e))

pub all_read : (bytes units rest : List ℕ) → true ≡ eqb (length rest) 0 → Reads bytes units rest → AreUnits bytes units × ((us : List ℕ) → AreUnits bytes us → some units ≡ some us)
all_read bytes units rest e r =
    let nothing : rest ≡ [] = empty rest e in (
      subst (λ (t : List ℕ). AreUnits bytes t) (append-nil units) (r.sound [] nothing),
      λ us h. let a = r.complete us h in ap (λ (t : List ℕ). some t) (sym (a.1 ∙ ap (λ (t : List ℕ). units ++ t) (none_left a.0 (subst (λ (x : List ℕ). AreUnits x a.0) nothing a.2)) ∙ append-nil units)),
    )
  where
    no_prefix : (prefix rest : List ℕ) (u : ℕ) → [] ≡ prefix ++ rest → IsUnit prefix u → ⊥
    no_prefix [] rest u e h = h
    no_prefix (a ∷ more) rest u e h = absurd cc

    none_left : (us : List ℕ) → AreUnits [] us → us ≡ []
    none_left [] h = refl
    none_left (u ∷ us) h = absurd (no_prefix h.0 h.1 u h.2 h.3)

pub refused : (bytes units rest : List ℕ) → false ≡ eqb (length rest) 0 → unit_at rest ≡ None → Reads bytes units rest → (us : List ℕ) → AreUnits bytes us → ⊥
refused bytes units rest e stop r us h = let a = r.complete us h in stuck rest a.0 (not_none (length rest) e) stop a.2

-- ---- the computing definition
one_case : (p q r : Bool) (a : ℕ) (x : ℕ × List ℕ) (all : List ℕ → Option (List ℕ)) → all [] ≡ some [] → cond p (some (a, [])) (cond q None (cond r None None)) ≡ Some x → cond p (some (a ∷ [])) None ≡ with_unit x.0 (all x.1)
one_case true q r a x all nothing e = subst (λ (z : ℕ × List ℕ). some (a ∷ []) ≡ with_unit z.0 (all z.1)) (some_is (a, []) x e) (rw nothing refl)
one_case false true r a x all nothing e = absurd cc
one_case false false true a x all nothing e = absurd cc
one_case false false false a x all nothing e = absurd cc

two_case : (p q t r : Bool) (a b v : ℕ) (x : ℕ × List ℕ) (all : List ℕ → Option (List ℕ)) → all [] ≡ some [] → cond p (some (a, b ∷ [])) (cond q (cond t (some (v, [])) None) (cond r None None)) ≡ Some x → cond p (with_unit a (all (b ∷ []))) (cond (q && t) (some (v ∷ [])) None) ≡ with_unit x.0 (all x.1)
two_case true q t r a b v x all nothing e = subst (λ (z : ℕ × List ℕ). with_unit a (all (b ∷ [])) ≡ with_unit z.0 (all z.1)) (some_is (a, b ∷ []) x e) refl
two_case false true true r a b v x all nothing e = subst (λ (z : ℕ × List ℕ). some (v ∷ []) ≡ with_unit z.0 (all z.1)) (some_is (v, []) x e) (rw nothing refl)
two_case false true false r a b v x all nothing e = absurd cc
two_case false false t true a b v x all nothing e = absurd cc
two_case false false t false a b v x all nothing e = absurd cc

three_case : (p q t r s : Bool) (a b c v w : ℕ) (rest : List ℕ) (x : ℕ × List ℕ) (all : List ℕ → Option (List ℕ)) → cond p (some (a, b ∷ c ∷ rest)) (cond q (cond t (some (v, c ∷ rest)) None) (cond r (cond (t && s) (some (w, rest)) None) None)) ≡ Some x
    → cond p (with_unit a (all (b ∷ c ∷ rest))) (cond (q && t) (with_unit v (all (c ∷ rest))) (cond (r && (t && s)) (with_unit w (all rest)) None)) ≡ with_unit x.0 (all x.1)
three_case true q t r s a b c v w rest x all e = subst (λ (z : ℕ × List ℕ). with_unit a (all (b ∷ c ∷ rest)) ≡ with_unit z.0 (all z.1)) (some_is (a, b ∷ c ∷ rest) x e) refl
three_case false true true r s a b c v w rest x all e = subst (λ (z : ℕ × List ℕ). with_unit v (all (c ∷ rest)) ≡ with_unit z.0 (all z.1)) (some_is (v, c ∷ rest) x e) refl
three_case false true false r s a b c v w rest x all e = absurd cc
three_case false false true true true a b c v w rest x all e = subst (λ (z : ℕ × List ℕ). with_unit w (all rest) ≡ with_unit z.0 (all z.1)) (some_is (w, rest) x e) refl
three_case false false true true false a b c v w rest x all e = absurd cc
three_case false false false true s a b c v w rest x all e = absurd cc
three_case false false t false s a b c v w rest x all e = absurd cc

one_unit : (bytes rest : List ℕ) (u : ℕ) → unit_at bytes ≡ Some (u, rest) → units_in bytes ≡ with_unit u (units_in rest)
unfolding unit_at units_in
one_unit [] rest u e = absurd cc
one_unit (a ∷ []) rest u e = one_case (within 1 128 a) (within 192 224 a) (within 224 240 a) a (u, rest) units_in refl e
one_unit (a ∷ b ∷ []) rest u e = two_case (within 1 128 a) (within 192 224 a) (is_tail b) (within 224 240 a) a b ((a - 192) * 64 + (b - 128)) (u, rest) units_in refl e
one_unit (a ∷ b ∷ c ∷ more) rest u e = three_case (within 1 128 a) (within 192 224 a) (is_tail b) (within 224 240 a) (is_tail c) a b c ((a - 192) * 64 + (b - 128)) ((a - 224) * 4096 + ((b - 128) * 64 + (c - 128))) more (u, rest) units_in e

abbrev pair : ℕ → List ℕ → Option (ℕ × List ℕ)
pair u rest = Some (u, rest)

one_none : (p q r : Bool) (a : ℕ) → cond p (pair a []) (cond q None (cond r None None)) ≡ None → cond p (some (a ∷ [])) None ≡ None
one_none true q r a e = absurd cc
one_none false q r a e = refl

two_none : (p q t r : Bool) (a b v : ℕ) (all : List ℕ → Option (List ℕ)) → cond p (pair a (b ∷ [])) (cond q (cond t (pair v []) None) (cond r None None)) ≡ None → cond p (with_unit a (all (b ∷ []))) (cond (q && t) (some (v ∷ [])) None) ≡ None
two_none true q t r a b v all e = absurd cc
two_none false true true r a b v all e = absurd cc
two_none false true false r a b v all e = refl
two_none false false t r a b v all e = refl

three_none : (p q t r s : Bool) (a b c v w : ℕ) (rest : List ℕ) (all : List ℕ → Option (List ℕ)) → cond p (pair a (b ∷ c ∷ rest)) (cond q (cond t (pair v (c ∷ rest)) None) (cond r (cond (t && s) (pair w rest) None) None)) ≡ None
    → cond p (with_unit a (all (b ∷ c ∷ rest))) (cond (q && t) (with_unit v (all (c ∷ rest))) (cond (r && (t && s)) (with_unit w (all rest)) None)) ≡ None
three_none true q t r s a b c v w rest all e = absurd cc
three_none false true true r s a b c v w rest all e = absurd cc
three_none false true false true s a b c v w rest all e = refl
three_none false true false false s a b c v w rest all e = refl
three_none false false true true true a b c v w rest all e = absurd cc
three_none false false true true false a b c v w rest all e = refl
three_none false false false true s a b c v w rest all e = refl
three_none false false t false s a b c v w rest all e = refl

no_unit : (a : ℕ) (more : List ℕ) → unit_at (a ∷ more) ≡ None → units_in (a ∷ more) ≡ None
unfolding unit_at units_in
no_unit a [] e = one_none (within 1 128 a) (within 192 224 a) (within 224 240 a) a e
no_unit a (b ∷ []) e = two_none (within 1 128 a) (within 192 224 a) (is_tail b) (within 224 240 a) a b ((a - 192) * 64 + (b - 128)) units_in e
no_unit a (b ∷ c ∷ more) e = three_none (within 1 128 a) (within 192 224 a) (is_tail b) (within 224 240 a) (is_tail c) a b c ((a - 192) * 64 + (b - 128)) ((a - 224) * 4096 + ((b - 128) * 64 + (c - 128))) more units_in e

with_unit_is : (u : ℕ) (o : Option (List ℕ)) (us : List ℕ) → with_unit u o ≡ Some us → (vs : List ℕ) × (o ≡ Some vs) × (us ≡ u ∷ vs)
with_unit_is u None us e = absurd cc
with_unit_is u (Some vs) us e = (vs, refl, sym (some_is (u ∷ vs) us e))

units_none : (bytes us : List ℕ) → bytes ≡ [] → units_in bytes ≡ Some us → AreUnits bytes us
unfolding units_in
units_none bytes us is e = subst (λ (t : List ℕ). AreUnits bytes t) (some_is [] us (sym (ap units_in is) ∙ e)) is

units_more : (bytes us : List ℕ) (o : Option (ℕ × List ℕ)) → 0 < length bytes → unit_at bytes ≡ o → ((rest vs : List ℕ) → length rest < length bytes → units_in rest ≡ Some vs → AreUnits rest vs) → units_in bytes ≡ Some us → AreUnits bytes us
units_more [] us o some_left is again e = absurd (omega (arith, some_left))
units_more (a ∷ more) us None some_left is again e = absurd (none_some us (sym (no_unit a more is) ∙ e))
  where
    none_some : (us : List ℕ) → None ≡ Some us → ⊥
    none_some us e = cc
units_more (a ∷ more) us (Some x) some_left is again e =
    let w = with_unit_is x.0 (units_in x.1) us (sym (one_unit (a ∷ more) x.1 x.0 is) ∙ e) in
    let f = unit_takes (a ∷ more) x is in
    let later = again x.1 w.0 (shorter (a ∷ more) x.0 x.1 is) w.1 in
    subst (λ (t : List ℕ). AreUnits (a ∷ more) t) (sym w.2) (f.prefix, x.1, f.parts, f.is, later)

units_take : (n : ℕ) (bytes us : List ℕ) → length bytes ≤ n → units_in bytes ≡ Some us → AreUnits bytes us
units_take n [] us le e = units_none [] us refl e
units_take zero (a ∷ more) us le e = absurd (omega (arith, le))
units_take (suc n) (a ∷ more) us le e = units_more (a ∷ more) us (unit_at (a ∷ more)) (omega arith) refl (λ rest vs lt is. units_take n rest vs (omega (arith, le, lt)) is) e

units_again : (bytes us : List ℕ) → AreUnits bytes us → units_in bytes ≡ Some us
unfolding units_in
units_again bytes [] h = ap units_in h
units_again bytes (u ∷ us) h =
    let first : unit_at bytes ≡ Some (u, h.1) = ap unit_at h.2 ∙ unit_again h.0 u h.1 h.3 in
    one_unit bytes h.1 u first ∙ rw (units_again h.1 us h.4) refl

pub text_again : (bytes text : List ℕ) → IsText bytes text → text_of bytes ≡ Some text
text_again bytes text t = rw (units_again bytes t.units t.are, t.paired) (ap (λ (x : List ℕ). some x) (sym t.spelled))

pub text_take : (bytes text : List ℕ) → text_of bytes ≡ Some text → IsText bytes text
text_take bytes text e = go (units_in bytes) refl e
  where
    paired : (us : List ℕ) (b : Bool) → has_unpaired_surrogate us ≡ b → units_in bytes ≡ Some us → cond b None (some (encode_utf8_all (utf16_lossy_chars us))) ≡ Some text → IsText bytes text
    paired us true is read t = absurd cc
    paired us false is read t = record { units = us; are = units_take (length bytes) bytes us (omega arith) read; paired = is; spelled = sym (some_is _ text t) }

    go : (o : Option (List ℕ)) → units_in bytes ≡ o → text_in_units o ≡ Some text → IsText bytes text
    go None read t = absurd cc
    go (Some us) read t = paired us (has_unpaired_surrogate us) refl read t

pub is_exact : {E : Type 0} (bytes : List ℕ) (r : Result (Option (List ℕ)) E) → IfOk r (λ o. IfSome o (λ t. IsText bytes t)) → ((text : List ℕ) → IsText bytes text → IfOk r (λ o. o ≡ Some text)) → IfOk r (λ o. o ≡ text_of bytes)
is_exact bytes (Ok (Some text)) found only = sym (text_again bytes text found)
is_exact bytes (Ok None) found only = go (text_of bytes) refl
  where
    none_some : (t : List ℕ) → None ≡ Some t → ⊥
    none_some t e = cc

    go : (o : Option (List ℕ)) → text_of bytes ≡ o → None ≡ text_of bytes
    go None is = sym is
    go (Some t) is = absurd (none_some t (only t (text_take bytes t is)))
is_exact bytes (Err e) found only = tt
