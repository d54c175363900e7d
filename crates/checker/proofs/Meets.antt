-- The tests say whether a floor holds.
use Rattle.std.proofs.Common.{◌≡◌, ◌≢◌, ◌⊎◌, ◌≤◌, ◌<◌, ℕ, ◌+◌, ◌-◌, ◌==◌, ◌||◌, Bool, true, false, List, [], ◌∷◌, Some, refl, sym, ap, ◌∙◌, subst, inl, inr, ⊎_elim, arith}
use Rattle.std.specs.Prelude.{if◌then◌else◌}
use Rattle.std.specs.List.Sorted.{IsStrictlyIncreasing}
use Rattle.std.proofs.lemmas.Bool.{false≢true, eqb-true, eq-eqb, or_cases}
use Rattle.terms.specs.declared.parts.Parts.{Parts}
use Rattle.terms.specs.declared.parts.Decl.{Decl}
use Rattle.terms.specs.Table.{has}
use Rattle.terms.specs.Typing.{is_below, is_pair}
use Rattle.terms.specs.Weights.{variable_weight, step_in}
use Rattle.checker.specs.declared.floor.Floor.{Floor}
use Rattle.checker.specs.Floors.{top, args_floor, Reaches, IsFloor}
use Rattle.checker.specs.Checks.{head_reaches, variable_reaches, variables_reach}
use Rattle.checker.specs.Heads.{TypeReaches, LowersReach}
use Rattle.checker.proofs.TypeSets.{has_hit, has_more, has_tail, no_has}
use Rattle.checker.proofs.Lookups.{Pair, pair_at, pair_in}

both : (b x : Bool) → (if b then x else false) ≡ true → (b ≡ true) × (x ≡ true)
both true x e = (refl, e)
both false x e = absurd (false≢true e)

one_of : (b x : Bool) → (if b then x else false) ≡ false → (b ≡ false) ⊎ (x ≡ false)
one_of true x e = inr e
one_of false x e = inl refl

reaches : (b : Bool) (n : ℕ) → (if b then n == 0 else true) ≡ true → b ≡ true → n ≡ 0
reaches true n e below = eqb-true n 0 e
reaches false n e below = absurd (false≢true below)

falls : (b : Bool) (n : ℕ) → (if b then n == 0 else true) ≡ false → (b ≡ true) × (n ≢ 0)
falls true n e = (refl, λ z. false≢true (sym e ∙ eq-eqb n 0 z))
falls false n e = absurd (false≢true (sym e))

sum_of : (f w s a : ℕ) → ((f - w) - s) - a ≡ 0 → f ≤ w + s + a
sum_of f w s a e = omega (arith, e)

sum_up : (f w s a : ℕ) → f ≤ w + s + a → ((f - w) - s) - a ≡ 0
sum_up f w s a l = omega (arith, l)

one_of_two : (f x : ℕ) → f - x ≡ 0 → f ≤ x
one_of_two f x e = omega (arith, e)

two_of_one : (f x : ℕ) → f ≤ x → f - x ≡ 0
two_of_one f x l = omega (arith, l)

least : (g : Parts) (f x : ℕ) → f ≤ top g → Reaches g f x → f ≤ x
least g f x within r = ⊎_elim (λ l. l) (λ l. omega (arith, l, within)) r

variables_yes : (g : Parts) (f : Floor) (set : List ℕ) → variables_reach g f set ≡ true → (a : ℕ) → has a set ≡ true → is_below g a f.goal ≡ true → Reaches g f.floor (variable_weight g + step_in g (Some a) f.goal)
unfolding variables_reach variable_reaches
variables_yes g f [] e a h below = absurd (no_has a h)
variables_yes g f (x ∷ set) e a h below =
    let parts = both (variable_reaches g f x) (variables_reach g f set) e in
    ⊎_elim
    (λ t.
    let same : x ≡ a = eqb-true x a t in
    subst (λ y. is_below g y f.goal ≡ true → Reaches g f.floor (variable_weight g + step_in g (Some y) f.goal)) same
    (λ b. inl (one_of_two f.floor (variable_weight g + step_in g (Some x) f.goal) (reaches (is_below g x f.goal) (f.floor - (variable_weight g + step_in g (Some x) f.goal)) parts.0 b))) below)
    (λ t. variables_yes g f set parts.1 a t below)
    (has_tail a x set h)

variables_no : (g : Parts) (f : Floor) (set : List ℕ) → f.floor ≤ top g → variables_reach g f set ≡ false → ((a : ℕ) → has a set ≡ true → is_below g a f.goal ≡ true → Reaches g f.floor (variable_weight g + step_in g (Some a) f.goal)) → ⊥
unfolding variables_reach variable_reaches
variables_no g f [] within e all = false≢true (sym e)
variables_no g f (x ∷ set) within e all =
    ⊎_elim
    (λ o.
    let n = falls (is_below g x f.goal) (f.floor - (variable_weight g + step_in g (Some x) f.goal)) o in
    n.1 (two_of_one f.floor (variable_weight g + step_in g (Some x) f.goal) (least g f.floor (variable_weight g + step_in g (Some x) f.goal) within (all x (has_hit x x set (eq-eqb x x refl)) n.0))))
    (λ o. variables_no g f set within o (λ a h below. all a (has_more a x set h) below))
    (one_of (variable_reaches g f x) (variables_reach g f set) e)

head_yes : (g : Parts) (fs : List Floor) (f : Floor) (d : Decl) → head_reaches g fs f d ≡ true → Reaches g f.floor (d.weight + step_in g (Some d.result) f.goal + args_floor g fs f.set f.left d.args)
unfolding head_reaches
head_yes g fs f d e = inl (sum_of f.floor d.weight (step_in g (Some d.result) f.goal) (args_floor g fs f.set f.left d.args) (eqb-true (((f.floor - d.weight) - step_in g (Some d.result) f.goal) - args_floor g fs f.set f.left d.args) 0 e))

head_from : (g : Parts) (fs : List Floor) (f : Floor) (d : Decl) → f.floor ≤ top g → Reaches g f.floor (d.weight + step_in g (Some d.result) f.goal + args_floor g fs f.set f.left d.args) → head_reaches g fs f d ≡ true
unfolding head_reaches
head_from g fs f d within r = eq-eqb (((f.floor - d.weight) - step_in g (Some d.result) f.goal) - args_floor g fs f.set f.left d.args) 0
    (sum_up f.floor d.weight (step_in g (Some d.result) f.goal) (args_floor g fs f.set f.left d.args) (least g f.floor (d.weight + step_in g (Some d.result) f.goal + args_floor g fs f.set f.left d.args) within r))

below_same : (g : Parts) (a b : ℕ) → a ≡ b → is_below g a b ≡ true
unfolding is_below
below_same g a b e = ap (λ x. x || is_pair g.pairs a b) (eq-eqb a b e)

or_right : (x y : Bool) → y ≡ true → x || y ≡ true
or_right true y e = refl
or_right false y e = e

below_pair : (g : Parts) (a b : ℕ) → is_pair g.pairs a b ≡ true → is_below g a b ≡ true
unfolding is_below
below_pair g a b e = or_right (a == b) (is_pair g.pairs a b) e

below_cases : (g : Parts) (a b : ℕ) → is_below g a b ≡ true → ((a == b) ≡ true) ⊎ (is_pair g.pairs a b ≡ true)
unfolding is_below
below_cases g a b e = or_cases (a == b) (is_pair g.pairs a b) e

pub floor_yes : (g : Parts) (fs : List Floor) (f : Floor) → f.floor ≤ g.limit + 1 → IsStrictlyIncreasing f.set → true ≡ variables_reach g f f.set → TypeReaches g fs f f.goal → LowersReach g fs f → IsFloor g fs f
floor_yes g fs f within rising vars own lowers = record {
  rising = rising;
  within = omega (arith, within);
  variables = variables_yes g f f.set (sym vars);
  heads = λ i d at below. ⊎_elim
      (λ (same : (d.result == f.goal) ≡ true). head_yes g fs f d (own.each i d at (eqb-true d.result f.goal same)))
      (λ (pair : is_pair g.pairs d.result f.goal ≡ true). let p : Pair g.pairs d.result f.goal = pair_at g.pairs d.result f.goal pair in head_yes g fs f d ((lowers.each p.at p.pair p.is p.upper).each i d at (sym p.lower)))
      (below_cases g d.result f.goal below);
}

pub floor_high : (g : Parts) (fs : List Floor) (f : Floor) → g.limit + 1 < f.floor → IsFloor g fs f → ⊥
floor_high g fs f high is = let w : f.floor ≤ top g = is.within in omega (arith, high, w)

pub floor_vars : (g : Parts) (fs : List Floor) (f : Floor) → false ≡ variables_reach g f f.set → IsFloor g fs f → ⊥
floor_vars g fs f vars is = variables_no g f f.set is.within (sym vars) is.variables

pub floor_own : (g : Parts) (fs : List Floor) (f : Floor) → (TypeReaches g fs f f.goal → ⊥) → IsFloor g fs f → ⊥
floor_own g fs f not is = not (record { each = λ i d at same. head_from g fs f d is.within (is.heads i d at (below_same g d.result f.goal same)) })

pub floor_lowers : (g : Parts) (fs : List Floor) (f : Floor) → (LowersReach g fs f → ⊥) → IsFloor g fs f → ⊥
floor_lowers g fs f not is = not (record {
  each = λ j p at upper. record {
    each = λ i d here same.
        let pair : is_pair g.pairs d.result f.goal ≡ true = ap (λ x. is_pair g.pairs x f.goal) same ∙ ap (λ x. is_pair g.pairs p.0 x) (sym upper) ∙ pair_in g.pairs j p at in
        head_from g fs f d is.within (is.heads i d here (below_pair g d.result f.goal pair));
  };
})

pub low_enough : (g : Parts) (n : ℕ) → n ≤ g.limit + 1 → n ≤ top g
low_enough g n l = omega (arith, l)

pub ruleset meets = (floor_yes, floor_high, floor_vars, floor_own, floor_lowers, low_enough)
