-- The sources of an environment by their numbers, and what is known of their types.
use Rattle.std.proofs.Common.{◌≡◌, ◌⊎◌, inl, inr, ℕ, suc, ◌+◌, ◌-◌, ◌<◌, ◌≤◌, true, ◌==◌, nat_lt, List, [], ◌∷◌, length, map, slice_get, Some, refl, sym, ap, subst, ◌∙◌, arith}
use Rattle.std.specs.List.{list_all, flat_map}
use Rattle.std.proofs.lemmas.Bool.{false≢true, and_parts, or_cases, eqb-true, ltb-true, cases_lt}
use Rattle.std.proofs.lemmas.List.Concat.{flat_map-cons}
use Rattle.std.proofs.lemmas.Option.{slice_get_within}
use Rattle.terms.specs.Faults.{IsValid, is_arg_known}
use Rattle.terms.specs.Table.{has}
use Rattle.terms.specs.Typing.{is_pair}
use Rattle.terms.specs.declared.parts.Arg.{Arg}
use Rattle.terms.specs.declared.parts.Arg.TheVariants.{Plain, Fun}
use Rattle.terms.specs.declared.parts.Decl.{Decl}
use Rattle.terms.specs.declared.parts.Parts.{Parts}
use Rattle.terms.proofs.Valid.{valid-decl, valid-pair}
use Rattle.weight_bounds.specs.Relaxed.{parameters_of, parameters_in, parameters}
use Rattle.weight_bounds.specs.Rules.{Source, of_decl, of_pair, sources, source_rule}
use Rattle.weight_bounds.specs.Numbers.{IsStep, IsSettled}
use Rattle.weight_bounds.proofs.Lists.{get-either, get-first, get-second, get-map, get-mapped, get-pair, pair-get, has-either, has-flat_map}

-- the source of a declaration, and of a pair
pub source-decl : (g : Parts) (i : ℕ) (d : Decl) → slice_get g.decls i ≡ Some d → slice_get (sources g) i ≡ Some (of_decl d)
source-decl g i d is = get-first (map of_decl g.decls) (map (of_pair g) g.pairs) i (of_decl d) (get-map of_decl g.decls i d is)

length-of : {X Y : Type 0} (f : X → Y) (xs : List X) → length (map f xs) ≡ length xs
length-of f [] = refl
length-of f (x ∷ xs) = ap (λ n. suc n) (length-of f xs)

pub source-place : (g : Parts) (j : ℕ) (p : ℕ × ℕ) → slice_get g.pairs j ≡ Some p → slice_get (sources g) (length g.decls + j) ≡ Some (of_pair g p)
source-place g j p is =
    ap (λ n. slice_get (sources g) (n + j)) (sym (length-of of_decl g.decls))
    ∙ get-second (map of_decl g.decls) (map (of_pair g) g.pairs) j (of_pair g p) (get-map (of_pair g) g.pairs j p is)

pub source-pair : (g : Parts) (a b : ℕ) → is_pair g.pairs a b ≡ true → (k : ℕ) × (slice_get (sources g) k ≡ Some (of_pair g (a, b)))
source-pair g a b h = (let j = get-pair g.pairs a b h in (length g.decls + j.0, source-place g j.0 (a, b) j.1))

-- a source is that of a declaration or of a pair
pub data IsOf (g : Parts) : ℕ → Source → Type 0 where
  decl : (k : ℕ) (d : Decl) → slice_get g.decls k ≡ Some d → IsOf g k (of_decl d)
  pair : (j : ℕ) (p : ℕ × ℕ) → slice_get g.pairs j ≡ Some p → IsOf g (length g.decls + j) (of_pair g p)

pub source-of : (g : Parts) (k : ℕ) (s : Source) → slice_get (sources g) k ≡ Some s → IsOf g k s
source-of g k s is = elim (get-either (map of_decl g.decls) (map (of_pair g) g.pairs) k s is) [
  | inl first ↦ (
      let r = get-mapped of_decl g.decls k s first in
      subst (IsOf g k) r.2 (decl k r.0 r.1))
  | inr second ↦ (
      let r = get-mapped (of_pair g) g.pairs second.0 s second.2 in
      let at : k ≡ length g.decls + second.0 = second.1 ∙ ap (λ n. n + second.0) (length-of of_decl g.decls) in
      subst (λ n. IsOf g n s) (sym at) (subst (IsOf g (length g.decls + second.0)) r.2 (pair second.0 r.0 r.1)))
]

-- past them there is none
pub source-none : (g : Parts) (k : ℕ) (s : Source) → length g.decls ≤ k → length g.pairs ≤ k - length g.decls → slice_get (sources g) k ≡ Some s → ⊥
source-none g k s past high is = go k s (source-of g k s is) past high
  where
    go : (n : ℕ) (t : Source) → IsOf g n t → length g.decls ≤ n → length g.pairs ≤ n - length g.decls → ⊥
    go n t (decl i d at) low above = (let within = slice_get_within g.decls i d at in omega (arith, within, low))
    go n t (pair j p at) low above = (let within = slice_get_within g.pairs j p at in omega (arith, within, above))

-- what a source gives is a type
pub source-type : (g : Parts) → IsValid g → (k : ℕ) (s : Source) → slice_get (sources g) k ≡ Some s → s.result < length g.types
source-type g valid k s is = go k s (source-of g k s is)
  where
    go : (n : ℕ) (t : Source) → IsOf g n t → t.result < length g.types
    go n t (decl i d at) = (valid-decl g valid i d at).result
    go n t (pair j p at) = (valid-pair g valid p.0 p.1 (pair-get g.pairs j p at)).1

-- what lambdas bind are types
all-known : (types t : ℕ) (ps : List ℕ) → list_all (λ p. nat_lt p types) ps ≡ true → has t ps ≡ true → t < types
unfolding has
all-known types t [] known h = absurd (false≢true h)
all-known types t (p ∷ ps) known h =
    let parts = and_parts (nat_lt p types) (list_all (λ q. nat_lt q types) ps) known in
    elim (or_cases (p == t) (has t ps) h) [
      | inl here ↦ subst (λ x. x < types) (eqb-true p t here) (ltb-true p types parts.0)
      | inr later ↦ all-known types t ps parts.1 later
    ]

in-args : (types t : ℕ) (args : List Arg) → list_all (is_arg_known types) args ≡ true → has t (parameters_in args) ≡ true → t < types
unfolding has
in-args types t [] known h = absurd (false≢true h)
in-args types t (a ∷ args) known h =
    let parts = and_parts (is_arg_known types a) (list_all (is_arg_known types) args) known in
    elim (has-either t (parameters_of a) (parameters_in args) (sym (ap (has t) (flat_map-cons parameters_of a args)) ∙ h)) [
      | inl here ↦ of-arg a parts.0 here
      | inr later ↦ in-args types t args parts.1 later
    ]
  where
    of-arg : (x : Arg) → is_arg_known types x ≡ true → has t (parameters_of x) ≡ true → t < types
    of-arg (Plain b) k m = absurd (false≢true m)
    of-arg (Fun ps r) k m = all-known types t ps (and_parts (list_all (λ p. nat_lt p types) ps) (nat_lt r types) k).0 m

in-decls : (types t : ℕ) (ds : List Decl) → ((k : ℕ) (d : Decl) → slice_get ds k ≡ Some d → list_all (is_arg_known types) d.args ≡ true) → has t (flat_map (λ (d : Decl). parameters_in d.args) ds) ≡ true → t < types
unfolding has
in-decls types t [] known h = absurd (false≢true h)
in-decls types t (d ∷ ds) known h = elim (has-either t (parameters_in d.args) (flat_map (λ (x : Decl). parameters_in x.args) ds) (sym (ap (has t) (flat_map-cons (λ (x : Decl). parameters_in x.args) d ds)) ∙ h)) [
  | inl here ↦ in-args types t d.args (known 0 d refl) here
  | inr later ↦ in-decls types t ds (λ k e is. known (suc k) e is) later
]

pub parameter-type : (g : Parts) → IsValid g → (t : ℕ) → has t (parameters g) ≡ true → t < length g.types
parameter-type g valid t h = in-decls (length g.types) t g.decls (λ k d is. (valid-decl g valid k d is).args) h

-- what a lambda of a declaration binds
pub parameter-decl : (g : Parts) (i : ℕ) (d : Decl) (t : ℕ) → slice_get g.decls i ≡ Some d → has t (parameters_in d.args) ≡ true → has t (parameters g) ≡ true
parameter-decl g i d t is h = has-flat_map (λ (x : Decl). parameters_in x.args) g.decls i d t is h

-- a source has a number below all of them
pub source-within : (g : Parts) (k : ℕ) (s : Source) → slice_get (sources g) k ≡ Some s → k < length g.decls + length g.pairs
source-within g k s is = go k s (source-of g k s is)
  where
    go : (n : ℕ) (t : Source) → IsOf g n t → n < length g.decls + length g.pairs
    go n t (decl i d at) = (let within = slice_get_within g.decls i d at in omega (arith, within))
    go n t (pair j p at) = (let within = slice_get_within g.pairs j p at in omega (arith, within))

-- one source more is settled
pub next-settled : (g : Parts) (limit left i : ℕ) (n0 n1 : List ℕ) (q0 q1 : List (ℕ × ℕ)) → IsStep g limit n0 q0 n1 q1 → ((k : ℕ) (s : Source) → k < i → slice_get (sources g) k ≡ Some s → IsSettled g limit n0 q0 (source_rule left s))
    → ((s : Source) → slice_get (sources g) i ≡ Some s → IsSettled g limit n1 q1 (source_rule left s)) → (k : ℕ) (s : Source) → k < i + 1 → slice_get (sources g) k ≡ Some s → IsSettled g limit n1 q1 (source_rule left s)
next-settled g limit left i n0 n1 q0 q1 step before settled k s low at = go (cases_lt k i)
  where
    go : (k < i) ⊎ (i ≤ k) → IsSettled g limit n1 q1 (source_rule left s)
    go (inl earlier) = step.settled (source_rule left s) (before k s earlier at)
    go (inr now) = (let same : i ≡ k = omega (arith, now, low) in settled s (ap (slice_get (sources g)) same ∙ at))
