-- What follows from there being no fault.
use Rattle.std.proofs.Common.{◌≡◌, ◌≢◌, inl, inr, ℕ, zero, suc, ◌+◌, ◌<◌, ◌≤◌, Bool, true, false, not, ◌||◌, ◌&&◌, ◌==◌, nat_lt, List, [], ◌∷◌, length, slice_get, Option, Some, None, refl, sym, subst, ◌∙◌, arith}
use Rattle.std.specs.List.{list_all}
use Rattle.std.proofs.lemmas.Bool.{ltb-true, and_parts, eq-eqb, eqb-true, or_cases, both_ways}
use Rattle.terms.specs.Typing.{is_pair, is_below}
use Rattle.terms.specs.Faults.{or_then, unless, first_below, limit_fault, greatest_depth, depth_fault, step_fault, steps_fault, pairs_fault, order_fault, decl_fault, decls_fault, goal_fault, first_env_fault, is_arg_known, is_well_formed, is_gap, IsValid}
use Rattle.terms.specs.declared.fault.EnvFault.{EnvFault}
use Rattle.terms.specs.declared.fault.EnvFault.TheVariants.{TypeRange, Weight, Limit, NotTransitive, Depth, Step}
use Rattle.terms.specs.declared.fault.EnvFault.TheVariants as fault
use Rattle.terms.specs.declared.parts.Decl.{Decl}
use Rattle.terms.specs.declared.parts.Parts.{Parts}
use Rattle.terms.proofs.Pairs.{or_then-none, unless-none, pairs-known}
use Rattle.terms.proofs.Gaps.{first_below-each}

-- the seven tests, one by one
record Passes (g : Parts) : Type 0 where
  limit : limit_fault g ≡ None
  depth : depth_fault g ≡ None
  steps : steps_fault g ≡ None
  pairs : pairs_fault (length g.types) 0 [] g.pairs ≡ None
  order : order_fault (length g.types) g.pairs ≡ None
  decls : decls_fault (length g.types) 0 g.decls ≡ None
  goal : goal_fault g ≡ None

passes : (g : Parts) → IsValid g → Passes g
unfolding first_env_fault
passes g valid =
    let a = or_then-none (limit_fault g) _ valid in
    let b = or_then-none (depth_fault g) _ a.1 in
    let c = or_then-none (steps_fault g) _ b.1 in
    let d = or_then-none (pairs_fault (length g.types) 0 [] g.pairs) _ c.1 in
    let e = or_then-none (order_fault (length g.types) g.pairs) _ d.1 in
    let f = or_then-none (decls_fault (length g.types) 0 g.decls) (goal_fault g) e.1 in
    record { limit = a.0; depth = b.0; steps = c.0; pairs = d.0; order = e.0; decls = f.0; goal = f.1 }

-- the limit is from 1 to 10,000
pub valid-limit : (g : Parts) → IsValid g → (0 < g.limit) × (g.limit ≤ 10000)
valid-limit g valid =
    let tests = and_parts (nat_lt 0 g.limit) (nat_lt g.limit 10001) (unless-none (nat_lt 0 g.limit && nat_lt g.limit 10001) (Limit g.limit) (passes g valid).limit) in
    (ltb-true 0 g.limit tests.0, omega (arith, ltb-true g.limit 10001 tests.1))

-- the depth is at most the greatest
pub valid-depth : (g : Parts) → IsValid g → g.depth ≤ greatest_depth
valid-depth g valid = omega (arith, ltb-true g.depth (greatest_depth + 1) (unless-none (nat_lt g.depth (greatest_depth + 1)) (Depth g.depth) (passes g valid).depth))

step-range : (i n greatest : ℕ) → step_fault i n greatest ≡ None → (1 ≤ n) × (n ≤ greatest)
step-range i n greatest none =
    let tests = and_parts (nat_lt 0 n) (nat_lt n (greatest + 1)) (unless-none (nat_lt 0 n && nat_lt n (greatest + 1)) (Step i) none) in
    (omega (arith, ltb-true 0 n tests.0), omega (arith, ltb-true n (greatest + 1) tests.1))

-- the three weights that belong to no declaration are in their ranges
pub record HasSteps (g : Parts) : Type 0 where
  pub bound : (1 ≤ g.steps.bound) × (g.steps.bound ≤ 100)
  pub binder : (1 ≤ g.steps.binder) × (g.steps.binder ≤ 100)
  pub step : (1 ≤ g.steps.step) × (g.steps.step ≤ 10000)

pub valid-steps : (g : Parts) → IsValid g → HasSteps g
valid-steps g valid =
    let a = or_then-none (step_fault 1 g.steps.bound 100) _ (passes g valid).steps in
    let b = or_then-none (step_fault 2 g.steps.binder 100) (step_fault 3 g.steps.step 10000) a.1 in
    record { bound = step-range 1 g.steps.bound 100 a.0; binder = step-range 2 g.steps.binder 100 b.0; step = step-range 3 g.steps.step 10000 b.1 }

-- the goal is a type
pub valid-goal : (g : Parts) → IsValid g → g.goal < length g.types
valid-goal g valid = ltb-true g.goal (length g.types) (unless-none (nat_lt g.goal (length g.types)) (TypeRange (length g.decls)) (passes g valid).goal)

-- both sides of a pair are types, and differ
pub valid-pair : (g : Parts) → IsValid g → (a b : ℕ) → is_pair g.pairs a b ≡ true → (a < length g.types) × (b < length g.types) × (a ≢ b)
valid-pair g valid = pairs-known (length g.types) 0 [] g.pairs (passes g valid).pairs

or_then-split : {X : Type 0} (a b c d : Option X) → or_then a (or_then b (or_then c d)) ≡ or_then (or_then a (or_then b c)) d
or_then-split None None c d = refl
or_then-split None (Some x) c d = refl
or_then-split (Some x) b c d = refl

-- the faults that come before those of the pairs
abbrev pub bounds : Parts → Option EnvFault
bounds g = or_then (limit_fault g) (or_then (depth_fault g) (steps_fault g))

-- the faults that come after those of the pairs
abbrev pub later : Parts → Option EnvFault
later g = or_then (order_fault (length g.types) g.pairs) (or_then (decls_fault (length g.types) 0 g.decls) (goal_fault g))

first-split : (g : Parts) → first_env_fault g ≡ or_then (bounds g) (or_then (pairs_fault (length g.types) 0 [] g.pairs) (later g))
unfolding first_env_fault
first-split g = or_then-split (limit_fault g) (depth_fault g) (steps_fault g) (or_then (pairs_fault (length g.types) 0 [] g.pairs) (later g))

-- the first fault, by where it is
pub first-bounds : (g : Parts) (f : EnvFault) → bounds g ≡ Some f → first_env_fault g ≡ Some f
first-bounds g f is = first-split g ∙ rw is refl

pub first-pairs : (g : Parts) (n : ℕ) (ps : List (ℕ × ℕ)) (f : EnvFault) → bounds g ≡ None → n ≡ length g.types → ps ≡ g.pairs → pairs_fault n 0 [] ps ≡ Some f → first_env_fault g ≡ Some f
first-pairs g n ps f within len same is = first-split g ∙ rw (within, sym len, sym same, is) refl

pub first-later : (g : Parts) (o : Option EnvFault) → bounds g ≡ None → pairs_fault (length g.types) 0 [] g.pairs ≡ None → o ≡ later g → first_env_fault g ≡ o
first-later g o within sound is = first-split g ∙ rw (within, sound) (sym is)

-- the fault of the declarations, over what the code calls them
pub of-decls : (g : Parts) (n : ℕ) (ds : List Decl) (o : Option EnvFault) → n ≡ length g.types → ds ≡ g.decls → o ≡ decls_fault n 0 ds → o ≡ decls_fault (length g.types) 0 g.decls
of-decls g n ds o len same is = is ∙ rw (len, same) refl

-- the pairs of an environment are transitive
pub valid-transitive : (g : Parts) → IsValid g → (a b c : ℕ) → is_pair g.pairs a b ≡ true → is_pair g.pairs b c ≡ true → is_pair g.pairs a c ≡ true
unfolding order_fault
valid-transitive g valid a b c ab bc =
    let n = length g.types in
    let first = valid-pair g valid a b ab in
    let last = valid-pair g valid b c bc in
    let at_a = first_below-each (λ x. first_below (λ y. first_below (λ z. unless (not (is_gap g.pairs x y z)) (NotTransitive x y z)) n) n) n (passes g valid).order a first.0 in
    let at_b = first_below-each (λ y. first_below (λ z. unless (not (is_gap g.pairs a y z)) (NotTransitive a y z)) n) n at_a b first.1 in
    let at_c = first_below-each (λ z. unless (not (is_gap g.pairs a b z)) (NotTransitive a b z)) n at_b c last.1 in
    no-gap (is_pair g.pairs a b) (is_pair g.pairs b c) (is_pair g.pairs a c) ab bc (unless-none (not (is_gap g.pairs a b c)) (NotTransitive a b c) at_c)
  where
    no-gap : (x y z : Bool) → x ≡ true → y ≡ true → not ((x && y) && not z) ≡ true → z ≡ true
    no-gap true true true ex ey h = refl
    no-gap true true false ex ey h = absurd (both_ways true (sym h) refl)
    no-gap false y z ex ey h = absurd (both_ways true (sym ex) refl)
    no-gap true false z ex ey h = absurd (both_ways true (sym ey) refl)

-- so is being at or below
pub below-transitive : (g : Parts) → IsValid g → (a b c : ℕ) → is_below g a b ≡ true → is_below g b c ≡ true → is_below g a c ≡ true
unfolding is_below
below-transitive g valid a b c ab bc = elim (or_cases (a == b) (is_pair g.pairs a b) ab) [
  | inl same ↦ subst (λ x. (x == c) || is_pair g.pairs x c ≡ true) (sym (eqb-true a b same)) bc
  | inr first ↦ (elim (or_cases (b == c) (is_pair g.pairs b c) bc) [
    | inl same ↦ rw (subst (λ x. is_pair g.pairs a x ≡ true) (eqb-true b c same) first) (or_true (a == c))
    | inr next ↦ rw (valid-transitive g valid a b c first next) (or_true (a == c))
  ])
]
  where
    or_true : (x : Bool) → x || true ≡ true
    or_true true = refl
    or_true false = refl

-- a type is at or below itself
pub below-itself : (g : Parts) (a : ℕ) → is_below g a a ≡ true
unfolding is_below
below-itself g a = rw (eq-eqb a a refl) refl

-- what is known of each declaration
pub record IsSound (g : Parts) (d : Decl) : Type 0 where
  pub args : list_all (is_arg_known (length g.types)) d.args ≡ true
  pub result : d.result < length g.types
  pub heavy : 5 ≤ d.weight
  pub light : d.weight ≤ 10000
  pub formed : is_well_formed d.form d.args ≡ true

sound : (g : Parts) (n : ℕ) (d : Decl) → decl_fault (length g.types) n d ≡ None → IsSound g d
unfolding decl_fault
sound g n d none =
    let types = length g.types in
    let a = or_then-none (unless (list_all (is_arg_known types) d.args && nat_lt d.result types) (TypeRange n)) _ none in
    let b = or_then-none (unless (nat_lt 4 d.weight && nat_lt d.weight 10001) (Weight n)) (unless (is_well_formed d.form d.args) (fault.Form n)) a.1 in
    let known = and_parts (list_all (is_arg_known types) d.args) (nat_lt d.result types) (unless-none (list_all (is_arg_known types) d.args && nat_lt d.result types) (TypeRange n) a.0) in
    let weight = and_parts (nat_lt 4 d.weight) (nat_lt d.weight 10001) (unless-none (nat_lt 4 d.weight && nat_lt d.weight 10001) (Weight n) b.0) in
    record {
      args = known.0;
      result = ltb-true d.result types known.1;
      heavy = omega (arith, ltb-true 4 d.weight weight.0);
      light = omega (arith, ltb-true d.weight 10001 weight.1);
      formed = unless-none (is_well_formed d.form d.args) (fault.Form n) b.1;
    }

sound-from : (g : Parts) (n : ℕ) (ds : List Decl) → decls_fault (length g.types) n ds ≡ None → (k : ℕ) (d : Decl) → slice_get ds k ≡ Some d → IsSound g d
unfolding decls_fault
sound-from g n [] none k d is = cc
sound-from g n (c ∷ ds) none zero d is =
    let parts = or_then-none (decl_fault (length g.types) n c) (decls_fault (length g.types) (n + 1) ds) none in
    let same : c ≡ d = cc in
    subst (λ x. IsSound g x) same (sound g n c parts.0)
sound-from g n (c ∷ ds) none (suc k) d is =
    sound-from g (n + 1) ds (or_then-none (decl_fault (length g.types) n c) (decls_fault (length g.types) (n + 1) ds) none).1 k d is

-- each declaration of an environment is sound; so each weighs more than 0
pub valid-decl : (g : Parts) → IsValid g → (k : ℕ) (d : Decl) → slice_get g.decls k ≡ Some d → IsSound g d
valid-decl g valid k d is = sound-from g 0 g.decls (passes g valid).decls k d is

pub valid-heavy : (g : Parts) → IsValid g → (k : ℕ) (d : Decl) → slice_get g.decls k ≡ Some d → 0 < d.weight
valid-heavy g valid k d is = omega (arith, (valid-decl g valid k d is).heavy)
