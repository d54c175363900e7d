-- The two worked environments of texts that tell terms apart.
use Rattle.std.proofs.Common.{◌≡◌, inl, inr, ℕ, zero, suc, ◌<◌, Bool, true, false, List, [], ◌∷◌, refl, subst, arith}
use Rattle.std.specs.Prelude.{codes}
use Rattle.std.proofs.lemmas.Bool.{false≢true}
use Rattle.terms.specs.Apart.{Declares, Wants, AreTold, IsToldApart, call_over, two_calls}
use Rattle.terms.specs.Text.{type_text}
use Rattle.terms.specs.declared.parts.Arg.{Arg}
use Rattle.terms.specs.declared.parts.Arg.TheVariants.{Plain}
use Rattle.terms.specs.declared.parts.Decl.{Decl}
use Rattle.terms.specs.declared.parts.Form.{Form}
use Rattle.terms.specs.declared.parts.Form.TheVariants.{Name, This, Call, Field, Lambda}

-- a declaration of the two
record IsCall (crowded : Bool) (i : ℕ) (d : Decl) : Type 0 where
  low : i < 2
  form : d.form ≡ Call (codes "f")
  args : d.args ≡ Plain i ∷ []
  flag : d.crowded ≡ crowded

call-at : (crowded : Bool) (i : ℕ) (d : Decl) → Declares (two_calls crowded) i d → IsCall crowded i d
call-at crowded zero d is = let same : call_over 0 crowded ≡ d = cc in
    subst (IsCall crowded 0) same (record { low = omega arith; form = refl; args = refl; flag = refl })
call-at crowded (suc zero) d is = let same : call_over 1 crowded ≡ d = cc in
    subst (IsCall crowded 1) same (record { low = omega arith; form = refl; args = refl; flag = refl })
call-at crowded (suc (suc i)) d is = absurd cc

no_this : (f : Form) → f ≡ Call (codes "f") → f ≡ This → ⊥
no_this f a b = cc

no_name : (f : Form) (s : List ℕ) → f ≡ Call (codes "f") → f ≡ Name s → ⊥
no_name f s a b = cc

no_lambda : (f : Form) (s : List ℕ) → f ≡ Call (codes "f") → f ≡ Lambda s → ⊥
no_lambda f s a b = cc

no_field : (f : Form) (s : List ℕ) (hidden : Bool) → f ≡ Call (codes "f") → f ≡ Field s hidden → ⊥
no_field f s hidden a b = cc

wanted : (xs : List Arg) (i a : ℕ) → xs ≡ Plain i ∷ [] → Wants xs a → i ≡ a
wanted xs i a is w = only (subst (λ ys. Wants ys a) is w)
  where
    only : Wants (Plain i ∷ []) a → i ≡ a
    only (inl e) = e
    only (inr h) = absurd h

heads : (m n : ℕ) → m ∷ [] ≡ n ∷ [] → m ≡ n
heads m n e = cc

one_text : (a b : ℕ) → a < 2 → b < 2 → type_text (two_calls true) a ≡ type_text (two_calls true) b → a ≡ b
one_text zero zero l m e = refl
one_text zero (suc zero) l m e = absurd (omega (arith, heads 65 66 e))
one_text (suc zero) zero l m e = absurd (omega (arith, heads 66 65 e))
one_text (suc zero) (suc zero) l m e = refl
one_text (suc (suc a)) b l m e = absurd (omega (arith, l))
one_text a (suc (suc b)) l m e = absurd (omega (arith, m))

one_place : (xs ys : List Arg) (i j : ℕ) → xs ≡ Plain i ∷ [] → ys ≡ Plain j ∷ [] → xs ≡ ys → i ≡ j
one_place xs ys i j a b same = cc

pub told : IsToldApart (two_calls true)
told = record {
  one_this = λ i j c d hi hj e f. absurd (no_this c.form (call-at true i c hi).form e);
  names = λ i j c d s hi hj e f. absurd (no_name c.form s (call-at true i c hi).form e);
  lambdas = λ i j c d s hi hj e f. absurd (no_lambda c.form s (call-at true i c hi).form e);
  types = λ i j c d a b hi hj _ _ w v same.
      let p = call-at true i c hi in
      let q = call-at true j d hj in
      let at_a = wanted c.args i a p.args w in
      let at_b = wanted d.args j b q.args v in
      one_text a b (subst (λ x. x < 2) at_a p.low) (subst (λ x. x < 2) at_b q.low) same;
  overloads = λ i j c d hi hj apart _ _.
      let p = call-at true i c hi in
      let q = call-at true j d hj in
      inl (p.flag, q.flag, λ same. apart (one_place c.args d.args i j p.args q.args same));
  no_name_before_a_dot = λ i j c d front rest hi hj _ e. no_name d.form front (call-at true j d hj).form e;
  no_field_before_a_dot = λ i j c d front rest hidden hi hj _ own. no_field d.form front hidden (call-at true j d hj).form own.form;
  calls_have_dots = λ i j c d s hi hj e _. absurd (no_this c.form (call-at true i c hi).form e);
  fields_are_no_names = λ i j c d s hi hj e _. no_name c.form s (call-at true i c hi).form e;
}

pub not_told : IsToldApart (two_calls false) → ⊥
not_told h = neither (h.overloads 0 1 (call_over 0 false) (call_over 1 false) refl refl (λ e. omega (arith, e)) refl refl)
  where
    neither : AreTold (two_calls false) (call_over 0 false) (call_over 1 false) → ⊥
    neither (inl both) = false≢true both.0
    neither (inr other) = other.0
