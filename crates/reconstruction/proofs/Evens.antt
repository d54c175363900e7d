-- Variables are even and declarations odd; and the pairs of an environment are distinct.
use Rattle.std.proofs.Common.{◌≡◌, ◌⊎◌, inl, inr, ℕ, zero, suc, ◌+◌, ◌-◌, ◌*◌, ◌<◌, ◌≤◌, nat_le, Bool, true, false, not, ◌&&◌, ◌==◌, nat_lt, List, [], ◌∷◌, ◌++◌, length, slice_get, Option, Some, None, refl, sym, ap, subst, ◌∙◌, arith}
use Rattle.std.specs.List.{list_any}
use Rattle.std.proofs.lemmas.Bool.{and_parts, and_from, false≢true, or_left, or_right, eq-eqb, eqb-true, ne_eqb, leb-true, cases_lt, or_cases}
use Rattle.std.proofs.lemmas.Option.{slice_get_within}
use Rattle.terms.specs.Count.{once_if}
use Rattle.terms.specs.Faults.{unless, limit_fault, depth_fault, steps_fault, pair_fault, pairs_fault, first_env_fault, are_plain, is_well_formed, IsValid}
use Rattle.terms.specs.Typing.{is_pair}
use Rattle.terms.specs.declared.fault.EnvFault.TheVariants.{PairRange, PairTwice}
use Rattle.terms.specs.declared.parts.Arg.{Arg}
use Rattle.terms.specs.declared.parts.Arg.TheVariants.{Plain, Fun}
use Rattle.terms.specs.declared.parts.Form.{Form}
use Rattle.terms.specs.declared.parts.Form.TheVariants as form
use Rattle.terms.specs.declared.parts.Parts.{Parts}
use Rattle.terms.proofs.Pairs.{or_then-none, unless-none}
use Rattle.terms.proofs.Standing.{count-append}
use Rattle.edges.proofs.Options.{some_eq}
use Rattle.reconstruction.specs.Ways.{often}
use Rattle.reconstruction.specs.Variables.{variables}

abbrev pub is_pair_of : ℕ → ℕ → Option (ℕ × ℕ) → Bool
is_pair_of a b None = false
is_pair_of a b (Some p) = (p.0 == a) && (p.1 == b)

-- whether the source is the pair of these types
abbrev pub is_lower : Parts → ℕ → ℕ → ℕ → Bool
is_lower g goal a n = nat_le (length g.decls) n && is_pair_of a goal (slice_get g.pairs (n - length g.decls))

-- the first variables, each once
variables-more_often : (b x : ℕ) → often x (variables (suc b)) ≡ often x (variables b) + once_if ((2 * b) == x)
unfolding variables
variables-more_often b x = (let s = count-append (λ m. m == x) (variables b) ((2 * b) ∷ []) in omega (arith, s))

variables-none_often : (x : ℕ) → often x (variables 0) ≡ 0
unfolding variables
variables-none_often x = refl

pub variables-odd : (b k : ℕ) → often (2 * k + 1) (variables b) ≡ 0
variables-odd zero k = variables-none_often (2 * k + 1)
variables-odd (suc b) k =
    let s = variables-more_often b (2 * k + 1) in
    let z : once_if ((2 * b) == (2 * k + 1)) ≡ 0 = ap once_if (ne_eqb (2 * b) (2 * k + 1) (λ e. absurd (omega (arith, e)))) in
    let r = variables-odd b k in
    omega (arith, s, z, r)

pub variables-past : (b m : ℕ) → b ≤ m → often (2 * m) (variables b) ≡ 0
variables-past zero m h = variables-none_often (2 * m)
variables-past (suc b) m h =
    let s = variables-more_often b (2 * m) in
    let z : once_if ((2 * b) == (2 * m)) ≡ 0 = ap once_if (ne_eqb (2 * b) (2 * m) (λ e. absurd (omega (arith, e, h)))) in
    let r = variables-past b m (omega (arith, h)) in
    omega (arith, s, z, r)

pub variables-within : (b m : ℕ) → m < b → often (2 * m) (variables b) ≡ 1
variables-within zero m h = absurd (omega (arith, h))
variables-within (suc b) m h = go (cases_lt m b) (variables-within b m)
  where
    go : (m < b) ⊎ (b ≤ m) → (m < b → often (2 * m) (variables b) ≡ 1) → often (2 * m) (variables (suc b)) ≡ 1
    go (inr high) later =
        let same : b ≡ m = omega (arith, high, h) in
        let s = variables-more_often b (2 * m) in
        let one : once_if ((2 * b) == (2 * m)) ≡ 1 = ap once_if (eq-eqb (2 * b) (2 * m) (omega (arith, same))) in
        let r = variables-past b m (omega (arith, same)) in
        omega (arith, s, one, r)
    go (inl low) later =
        let s = variables-more_often b (2 * m) in
        let z : once_if ((2 * b) == (2 * m)) ≡ 0 = ap once_if (ne_eqb (2 * b) (2 * m) (λ q. absurd (omega (arith, q, low)))) in
        let r = later low in
        omega (arith, s, z, r)

-- a pair that stood before is not in the rest
any-front : (q : ℕ × ℕ → Bool) (xs : List (ℕ × ℕ)) (y : ℕ × ℕ) → list_any q xs ≡ true → list_any q (xs ++ y ∷ []) ≡ true
any-front q [] y h = absurd (false≢true h)
any-front q (x ∷ xs) y h = elim (or_cases (q x) (list_any q xs) h) [
  | inl here ↦ or_left (q x) (list_any q (xs ++ y ∷ [])) here
  | inr there ↦ or_right (q x) (list_any q (xs ++ y ∷ [])) (any-front q xs y there)
]

any-last : (q : ℕ × ℕ → Bool) (xs : List (ℕ × ℕ)) (y : ℕ × ℕ) → q y ≡ true → list_any q (xs ++ y ∷ []) ≡ true
any-last q [] y h = or_left (q y) false h
any-last q (x ∷ xs) y h = or_right (q x) (list_any q (xs ++ y ∷ [])) (any-last q xs y h)

pair-front : (xs : List (ℕ × ℕ)) (y p : ℕ × ℕ) → is_pair xs p.0 p.1 ≡ true → is_pair (xs ++ y ∷ []) p.0 p.1 ≡ true
unfolding is_pair
pair-front xs y p h = any-front (λ z. (z.0 == p.0) && (z.1 == p.1)) xs y h

pair-last : (xs : List (ℕ × ℕ)) (p : ℕ × ℕ) → is_pair (xs ++ p ∷ []) p.0 p.1 ≡ true
unfolding is_pair
pair-last xs p = any-last (λ z. (z.0 == p.0) && (z.1 == p.1)) xs p (and_from (p.0 == p.0) (p.1 == p.1) (eq-eqb p.0 p.0 refl) (eq-eqb p.1 p.1 refl))

pair-new : (types n : ℕ) (earlier : List (ℕ × ℕ)) (p : ℕ × ℕ) → pair_fault types n earlier p ≡ None → is_pair earlier p.0 p.1 ≡ true → ⊥
unfolding pair_fault
pair-new types n earlier p h there =
    let r = or_then-none (unless ((nat_lt p.0 types && nat_lt p.1 types) && not (p.0 == p.1)) (PairRange n)) (unless (not (is_pair earlier p.0 p.1)) (PairTwice n)) h in
    let no : not (is_pair earlier p.0 p.1) ≡ true = unless-none (not (is_pair earlier p.0 p.1)) (PairTwice n) r.1 in
    false≢true (sym (ap not there) ∙ no)

pairs-new : (types n : ℕ) (earlier ps : List (ℕ × ℕ)) → pairs_fault types n earlier ps ≡ None → (j : ℕ) (p : ℕ × ℕ) → slice_get ps j ≡ Some p → is_pair earlier p.0 p.1 ≡ true → ⊥
unfolding pairs_fault
pairs-new types n earlier [] h j p at there = absurd (let low = slice_get_within [] j p at in omega (arith, low))
pairs-new types n earlier (x ∷ ps) h zero p at there =
    let r = or_then-none (pair_fault types n earlier x) (pairs_fault types (n + 1) (earlier ++ x ∷ []) ps) h in
    let same : x ≡ p = cc in
    pair-new types n earlier x r.0 (subst (λ (q : ℕ × ℕ). is_pair earlier q.0 q.1 ≡ true) (sym same) there)
pairs-new types n earlier (x ∷ ps) h (suc j) p at there =
    let r = or_then-none (pair_fault types n earlier x) (pairs_fault types (n + 1) (earlier ++ x ∷ []) ps) h in
    pairs-new types (n + 1) (earlier ++ x ∷ []) ps r.1 j p at (pair-front earlier x p there)

later-new : (types n : ℕ) (earlier : List (ℕ × ℕ)) (x : ℕ × ℕ) (ps : List (ℕ × ℕ)) → pairs_fault types n earlier (x ∷ ps) ≡ None → (k : ℕ) (p : ℕ × ℕ) → slice_get ps k ≡ Some p → x ≡ p → ⊥
unfolding pairs_fault
later-new types n earlier x ps h k p is same =
    let r = or_then-none (pair_fault types n earlier x) (pairs_fault types (n + 1) (earlier ++ x ∷ []) ps) h in
    pairs-new types (n + 1) (earlier ++ x ∷ []) ps r.1 k p is (subst (λ (q : ℕ × ℕ). is_pair (earlier ++ x ∷ []) q.0 q.1 ≡ true) same (pair-last earlier x))

pairs-apart : (types n : ℕ) (earlier ps : List (ℕ × ℕ)) → pairs_fault types n earlier ps ≡ None → (i j : ℕ) (p : ℕ × ℕ) → slice_get ps i ≡ Some p → slice_get ps j ≡ Some p → i ≡ j
unfolding pairs_fault
pairs-apart types n earlier [] h i j p at at' = absurd (let low = slice_get_within [] i p at in omega (arith, low))
pairs-apart types n earlier (x ∷ ps) h zero zero p at at' = refl
pairs-apart types n earlier (x ∷ ps) h zero (suc j) p at at' = absurd (later-new types n earlier x ps h j p at' (some_eq x p at))
pairs-apart types n earlier (x ∷ ps) h (suc i) zero p at at' = absurd (later-new types n earlier x ps h i p at (some_eq x p at'))
pairs-apart types n earlier (x ∷ ps) h (suc i) (suc j) p at at' = ap suc (pairs-apart types (n + 1) (earlier ++ x ∷ []) ps (or_then-none (pair_fault types n earlier x) (pairs_fault types (n + 1) (earlier ++ x ∷ []) ps) h).1 i j p at at')

pub valid-pairs_apart : (g : Parts) → IsValid g → (i j : ℕ) (p : ℕ × ℕ) → slice_get g.pairs i ≡ Some p → slice_get g.pairs j ≡ Some p → i ≡ j
unfolding first_env_fault
valid-pairs_apart g valid i j p at at' =
    let a = or_then-none (limit_fault g) _ valid in
    let b = or_then-none (depth_fault g) _ a.1 in
    let c = or_then-none (steps_fault g) _ b.1 in
    let d = or_then-none (pairs_fault (length g.types) 0 [] g.pairs) _ c.1 in
    pairs-apart (length g.types) 0 [] g.pairs d.0 i j p at at'

-- what the test for a lower type says
pub record IsLower (g : Parts) (goal a n : ℕ) : Type 0 where
  pub place : ℕ
  pub numbered : n ≡ length g.decls + place
  pub is : slice_get g.pairs place ≡ Some (a, goal)

pub lower-is : (g : Parts) (goal a n : ℕ) → is_lower g goal a n ≡ true → IsLower g goal a n
lower-is g goal a n h = go (slice_get g.pairs (n - length g.decls)) refl parts.1
  where
    parts : (nat_le (length g.decls) n ≡ true) × (is_pair_of a goal (slice_get g.pairs (n - length g.decls)) ≡ true)
    parts = and_parts (nat_le (length g.decls) n) (is_pair_of a goal (slice_get g.pairs (n - length g.decls))) h

    go : (o : Option (ℕ × ℕ)) → slice_get g.pairs (n - length g.decls) ≡ o → is_pair_of a goal o ≡ true → IsLower g goal a n
    go None is t = absurd (false≢true t)
    go (Some q) is t =
        let both = and_parts (q.0 == a) (q.1 == goal) t in
        let low = leb-true (length g.decls) n parts.0 in
        record {
          place = n - length g.decls;
          numbered = omega (arith, low);
          is = is ∙ ap (λ x. Some (x, q.1)) (eqb-true q.0 a both.0) ∙ ap (λ x. Some (a, x)) (eqb-true q.1 goal both.1);
        }

-- the arguments of a declaration are values, or just a lambda
pub args-shape : (f : Form) (args : List Arg) → is_well_formed f args ≡ true → (are_plain args ≡ true) ⊎ ((ps : List ℕ) × (r : ℕ) × (args ≡ Fun ps r ∷ []))
args-shape (form.Name s) [] h = inl refl
args-shape (form.Name s) (x ∷ xs) h = absurd (false≢true h)
args-shape form.This [] h = inl refl
args-shape form.This (x ∷ xs) h = absurd (false≢true h)
args-shape (form.Call s) xs h = inl h
args-shape (form.New s) xs h = inl h
args-shape (form.Method s) [] h = absurd (false≢true h)
args-shape (form.Method s) (Plain b ∷ more) h = inl h
args-shape (form.Method s) (Fun ps r ∷ more) h = absurd (false≢true h)
args-shape (form.Field s hidden) [] h = absurd (false≢true h)
args-shape (form.Field s hidden) (Plain b ∷ []) h = inl refl
args-shape (form.Field s hidden) (Plain b ∷ x ∷ more) h = absurd (false≢true h)
args-shape (form.Field s hidden) (Fun ps r ∷ more) h = absurd (false≢true h)
args-shape (form.Lambda s) [] h = absurd (false≢true h)
args-shape (form.Lambda s) (Plain b ∷ more) h = absurd (false≢true h)
args-shape (form.Lambda s) (Fun ps r ∷ []) h = inr (ps, r, refl)
args-shape (form.Lambda s) (Fun ps r ∷ x ∷ more) h = absurd (false≢true h)
