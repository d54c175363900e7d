-- Terms under lambdas of the environment are relaxed ones of the same weight.
use Rattle.std.proofs.Common.{◌≡◌, ◌⊎◌, inl, inr, ℕ, zero, suc, ◌+◌, ◌≤◌, ◌≢◌, Bool, true, false, ◌&&◌, ◌==◌, nat_lt, cond, List, [], ◌∷◌, ◌++◌, length, slice_get, Option, Some, None, refl, sym, ap, subst, ◌∙◌, arith, length-append}
use Rattle.std.proofs.lemmas.Bool.{false≢true, and_parts, or_cases, eqb-true, eq-eqb, ne_eqb}
use Rattle.std.proofs.lemmas.List.Concat.{flat_map-cons}
use Rattle.terms.specs.Expr.{Expr, var, head, Args, no_args, plain, lam}
use Rattle.terms.specs.Faults.{IsValid}
use Rattle.terms.specs.Place.{Place, fits_place, weigh, shallow, args_shallow}
use Rattle.terms.specs.Table.{has}
use Rattle.terms.specs.Typing.{type_in, fits, some_below, is_below, is_pair, result_if, args_wanted, joined}
use Rattle.terms.specs.Weights.{coercion_weight, binders_weight, step_in, decl_weight, weight_in, args_weight}
use Rattle.terms.specs.declared.parts.Arg.{Arg}
use Rattle.terms.specs.declared.parts.Arg.TheVariants.{Plain, Fun}
use Rattle.terms.specs.declared.parts.Decl.{Decl}
use Rattle.terms.specs.declared.parts.Parts.{Parts}
use Rattle.terms.proofs.Valid.{valid-pair}
use Rattle.weight_bounds.specs.Relaxed.{Weighs, ArgsWeigh, variable, declared, coerced, none, value, lambda, parameters, parameters_in, parameters_of}
use Rattle.weight_bounds.specs.Bounds.{IsUnderLambdas}
use Rattle.weight_bounds.proofs.Lists.{some_eq, none_some, has-get, has-either, has-first, has-second, joined-append}
use Rattle.weight_bounds.proofs.Sourced.{parameter-decl}

-- a pair, or the same type
below-pair : (g : Parts) (a b : ℕ) → is_below g a b ≡ true → (a ≡ b) ⊎ (is_pair g.pairs a b ≡ true)
unfolding is_below
below-pair g a b h = elim (or_cases (a == b) (is_pair g.pairs a b) h) [
  | inl same ↦ inl (eqb-true a b same)
  | inr pair ↦ inr pair
]

step-same : (g : Parts) (a b : ℕ) → a ≡ b → step_in g (Some a) b ≡ 0
step-same g a b e = ap (λ t. cond t 0 (coercion_weight g)) (eq-eqb a b e)

step-apart : (g : Parts) (a b : ℕ) → a ≢ b → step_in g (Some a) b ≡ coercion_weight g
step-apart g a b n = ap (λ t. cond t 0 (coercion_weight g)) (ne_eqb a b n)

-- the type of a term that fits
record Typed (g : Parts) (ctx : List (List ℕ)) (b : ℕ) (e : Expr) : Type 0 where
  type : ℕ
  is : type_in g ctx e ≡ Some type
  below : is_below g type b ≡ true

typed : (g : Parts) (ctx : List (List ℕ)) (b : ℕ) (e : Expr) → some_below g (type_in g ctx e) b ≡ true → Typed g ctx b e
typed g ctx b e h = go (type_in g ctx e) refl h
  where
    go : (o : Option ℕ) → type_in g ctx e ≡ o → some_below g o b ≡ true → Typed g ctx b e
    go None is h' = absurd (false≢true h')
    go (Some a) is h' = record { type = a; is = is; below = h' }

-- the declaration of a head that has a type
record Headed (g : Parts) (ctx : List (List ℕ)) (xs : Args) (o : Option Decl) (b : ℕ) : Type 0 where
  decl : Decl
  is : o ≡ Some decl
  fit : fits g ctx xs decl.args ≡ true
  result : decl.result ≡ b

headed : (g : Parts) (ctx : List (List ℕ)) (xs : Args) (o : Option Decl) (b : ℕ) → result_if o (fits g ctx xs (args_wanted o)) ≡ Some b → Headed g ctx xs o b
headed g ctx xs None b h = absurd (none_some b h)
headed g ctx xs (Some decl) b h = go (fits g ctx xs decl.args) refl h
  where
    go : (t : Bool) → fits g ctx xs decl.args ≡ t → cond t (Some decl.result) None ≡ Some b → Headed g ctx xs (Some decl) b
    go true e h' = record { decl = decl; is = refl; fit = e; result = some_eq decl.result b h' }
    go false e h' = absurd (none_some b h')

-- a context whose types lambdas of the environment bind
abbrev Bound : Parts → List (List ℕ) → Type 0
Bound g ctx = (t : ℕ) → has t (joined ctx) ≡ true → has t (parameters g) ≡ true

bound-more : (g : Parts) (ctx : List (List ℕ)) (ps : List ℕ) → Bound g ctx → ((t : ℕ) → has t ps ≡ true → has t (parameters g) ≡ true) → Bound g (ctx ++ ps ∷ [])
bound-more g ctx ps outer inner t h = elim (has-either t (joined ctx) ps (sym (ap (has t) (joined-append ctx ps)) ∙ h)) [
  | inl before ↦ outer t before
  | inr now ↦ inner t now
]

-- a variable stands under a lambda
under-lambda : (ctx : List (List ℕ)) (n a : ℕ) → slice_get (joined ctx) n ≡ Some a → 1 ≤ length ctx
unfolding joined
under-lambda [] n a h = absurd (none_some a h)
under-lambda (row ∷ ctx) n a h = omega arith

module _ (g : Parts) (valid : IsValid g) where
  coerce : (left a b w : ℕ) → is_below g a b ≡ true → Weighs g left a w → Weighs g left b (w + step_in g (Some a) b)
  coerce left a b w below inner = elim (below-pair g a b below) [
    | inl same ↦ (
        let nothing = step-same g a b same in
        let sum : w + step_in g (Some a) b ≡ w = omega (arith, nothing) in
        subst (λ x. Weighs g left b x) (sym sum) (subst (λ x. Weighs g left x w) same inner))
    | inr pair ↦ (
        let apart = (valid-pair g valid a b pair).2 in
        subst (λ x. Weighs g left b (w + x)) (sym (step-apart g a b apart)) (coerced left a b w pair inner))
  ]

  -- a term of just its type gives one of a type that it is below
  fitting : (e : Expr) (ctx : List (List ℕ)) (left b : ℕ) → ((a : ℕ) → type_in g ctx e ≡ Some a → Weighs g left a (weight_in g ctx e)) → some_below g (type_in g ctx e) b ≡ true → Weighs g left b (weight_in g ctx e + step_in g (type_in g ctx e) b)
  fitting e ctx left b exact below =
      let t : Typed g ctx b e = typed g ctx b e below in
      let r = coerce left t.type b (weight_in g ctx e) t.below (exact t.type t.is) in
      subst (λ o. Weighs g left b (weight_in g ctx e + step_in g o b)) (sym t.is) r

  mutual
    unfolding type_in weight_in shallow fits args_shallow args_weight

    exact : (e : Expr) (ctx : List (List ℕ)) (left a : ℕ) → length ctx + left ≤ g.depth → Bound g ctx → type_in g ctx e ≡ Some a → shallow left e ≡ true → Weighs g left a (weight_in g ctx e)
    exact (var n) ctx left a deep bound is flat =
        let around = under-lambda ctx n a is in
        variable left a (omega (arith, around, deep)) (bound a (has-get (joined ctx) n a is))
    exact (head n xs) ctx left a deep bound is flat =
        let h : Headed g ctx xs (slice_get g.decls n) a = headed g ctx xs (slice_get g.decls n) a is in
        let weighs : weight_in g ctx (head n xs) ≡ h.decl.weight + args_weight g ctx xs h.decl.args = ap (λ o. decl_weight o + args_weight g ctx xs (args_wanted o)) h.is in
        let args = args-weigh xs h.decl.args ctx left deep bound (λ t m. parameter-decl g n h.decl t h.is m) h.fit flat in
        let whole : Weighs g left h.decl.result (h.decl.weight + args_weight g ctx xs h.decl.args) = declared left n (args_weight g ctx xs h.decl.args) h.decl h.is args in
        subst (λ x. Weighs g left a x) (sym weighs) (subst (λ x. Weighs g left x (h.decl.weight + args_weight g ctx xs h.decl.args)) h.result whole)

    args-weigh : (xs : Args) (args : List Arg) (ctx : List (List ℕ)) (left : ℕ) → length ctx + left ≤ g.depth → Bound g ctx → ((t : ℕ) → has t (parameters_in args) ≡ true → has t (parameters g) ≡ true) → fits g ctx xs args ≡ true → args_shallow left xs ≡ true → ArgsWeigh g left args (args_weight g ctx xs args)
    args-weigh no_args [] ctx left deep bound known fit flat = none left
    args-weigh no_args (Plain b ∷ args) ctx left deep bound known fit flat = absurd (false≢true fit)
    args-weigh no_args (Fun ps r ∷ args) ctx left deep bound known fit flat = absurd (false≢true fit)
    args-weigh (plain e xs) [] ctx left deep bound known fit flat = absurd (false≢true fit)
    args-weigh (plain e xs) (Fun ps r ∷ args) ctx left deep bound known fit flat = absurd (false≢true fit)
    args-weigh (plain e xs) (Plain b ∷ args) ctx left deep bound known fit flat =
        let fs = and_parts (some_below g (type_in g ctx e) b) (fits g ctx xs args) fit in
        let ss = and_parts (shallow left e) (args_shallow left xs) flat in
        let first = fitting e ctx left b (λ a is. exact e ctx left a deep bound is ss.0) fs.0 in
        let rest = args-weigh xs args ctx left deep bound (λ t m. known t (ap (has t) (flat_map-cons parameters_of (Plain b) args) ∙ has-second t [] (parameters_in args) m)) fs.1 ss.1 in
        value left b (weight_in g ctx e + step_in g (type_in g ctx e) b) (args_weight g ctx xs args) args first rest
    args-weigh (lam e xs) [] ctx left deep bound known fit flat = absurd (false≢true fit)
    args-weigh (lam e xs) (Plain b ∷ args) ctx left deep bound known fit flat = absurd (false≢true fit)
    args-weigh (lam e xs) (Fun ps r ∷ args) ctx zero deep bound known fit flat = absurd (false≢true flat)
    args-weigh (lam e xs) (Fun ps r ∷ args) ctx (suc l) deep bound known fit flat =
        let under = ctx ++ ps ∷ [] in
        let fs = and_parts (nat_lt (length ctx) 3 && some_below g (type_in g under e) r) (fits g ctx xs args) fit in
        let f0 = and_parts (nat_lt (length ctx) 3) (some_below g (type_in g under e) r) fs.0 in
        let ss = and_parts (shallow l e) (args_shallow (suc l) xs) flat in
        let all = flat_map-cons parameters_of (Fun ps r) args in
        let inner = bound-more g ctx ps bound (λ t m. known t (ap (has t) all ∙ has-first t ps (parameters_in args) m)) in
        let long = length-append ctx (ps ∷ []) in
        let first = fitting e under l r (λ a is. exact e under l a (omega (arith, long, deep)) inner is ss.0) f0.1 in
        let rest = args-weigh xs args ctx (suc l) deep bound (λ t m. known t (ap (has t) all ∙ has-second t ps (parameters_in args) m)) fs.1 ss.1 in
        let v = weight_in g under e + step_in g (type_in g under e) r in
        let w = args_weight g ctx xs args in
        let sum : binders_weight g (length ps) + v + w ≡ args_weight g ctx (lam e xs) (Fun ps r ∷ args) = omega arith in
        subst (λ x. ArgsWeigh g (suc l) (Fun ps r ∷ args) x) sum (lambda l r v w ps args first rest)

  -- a term that fits is relaxed, and weighs as much
  pub relaxed : (p : Place) → IsUnderLambdas g p → (e : Expr) → fits_place g p e ≡ true → Weighs g p.left p.wanted (weigh g p e)
  unfolding fits_place weigh
  relaxed p under e fit =
      let parts = and_parts (some_below g (type_in g p.ctx e) p.wanted) (shallow p.left e) fit in
      fitting e p.ctx p.left p.wanted (λ a is. exact e p.ctx p.left a under.deep under.bound is parts.1) parts.0
