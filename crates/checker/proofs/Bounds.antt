-- Each term weighs at least the floor of its place: by induction on terms, over all contexts whose types are in the set.
use Rattle.std.proofs.Common.{◌≡◌, ◌≤◌, ℕ, zero, suc, ◌+◌, ◌==◌, ◌&&◌, Bool, true, false, List, [], ◌∷◌, ◌++◌, length, slice_get, Option, Some, None, refl, ap, ◌∙◌, subst, ⊎_elim, arith}
use Rattle.std.specs.Prelude.{nat_lt, nat_le, if◌then◌else◌, bytes_eq}
use Rattle.std.proofs.lemmas.Bool.{false≢true, and_parts, and_from, eq-eqb, leb-true}
use Rattle.std.proofs.lemmas.Slice.Eq.{bytes_eq-Decides}
use Rattle.terms.specs.Expr.{Expr, var, head, Args, no_args, plain, lam}
use Rattle.terms.specs.declared.parts.Parts.{Parts}
use Rattle.terms.specs.declared.parts.Decl.{Decl}
use Rattle.terms.specs.declared.parts.Arg.{Arg}
use Rattle.terms.specs.declared.parts.Arg.TheVariants.{Plain, Fun}
use Rattle.terms.specs.Typing.{joined, is_below, some_below, result_if, args_wanted, type_in, fits}
use Rattle.terms.specs.Weights.{variable_weight, binders_weight, step_in, decl_weight, weight_in, args_weight}
use Rattle.terms.specs.Place.{shallow, args_shallow, fits_place, weigh, goal_place, total_of, IsInhabitant}
use Rattle.checker.specs.declared.floor.Floor.{Floor}
use Rattle.terms.specs.Table.{has}
use Rattle.checker.specs.Floors.{with_types, is_at, floor_of, top, args_floor, Reaches, IsFloor, IsFirst, FloorsHold}
use Rattle.checker.proofs.TypeSets.{Covers, covers_more, covers_none, floor_at}

abbrev AllHold : Parts → List Floor → Type 0
AllHold g fs = (i : ℕ) (f : Floor) → slice_get fs i ≡ Some f → IsFloor g fs f

reached : (g : Parts) (floor sum : ℕ) → floor ≤ top g → Reaches g floor sum → floor ≤ sum
reached g floor sum within r = ⊎_elim (λ l. l) (λ l. omega (arith, l, within)) r

floor_var : (g : Parts) (fs : List Floor) → AllHold g fs → (set : List ℕ) (left b a : ℕ) → has a set ≡ true → is_below g a b ≡ true → floor_of fs set left b ≤ variable_weight g + step_in g (Some a) b
floor_var g fs all set left b a h below =
    ⊎_elim
    (λ (e : floor_of fs set left b ≡ 0). omega (arith, e))
    (λ (f : IsFloor g fs (record { set = set; left = left; goal = b; floor = floor_of fs set left b })). reached g (floor_of fs set left b) (variable_weight g + step_in g (Some a) b) f.within (f.variables a h below))
    (floor_at (IsFloor g fs) fs all set left b)

floor_head : (g : Parts) (fs : List Floor) → AllHold g fs → (set : List ℕ) (left b i : ℕ) (d : Decl) → slice_get g.decls i ≡ Some d → is_below g d.result b ≡ true → floor_of fs set left b ≤ d.weight + step_in g (Some d.result) b + args_floor g fs set left d.args
floor_head g fs all set left b i d at below =
    ⊎_elim
    (λ (e : floor_of fs set left b ≡ 0). omega (arith, e))
    (λ (f : IsFloor g fs (record { set = set; left = left; goal = b; floor = floor_of fs set left b })). reached g (floor_of fs set left b) (d.weight + step_in g (Some d.result) b + args_floor g fs set left d.args) f.within (f.heads i d at below))
    (floor_at (IsFloor g fs) fs all set left b)

by_var : (g : Parts) (fs : List Floor) → AllHold g fs → (ctx : List (List ℕ)) (set : List ℕ) (left b n : ℕ) → Covers set ctx → (o : Option ℕ) → slice_get (joined ctx) n ≡ o → some_below g o b ≡ true → floor_of fs set left b ≤ variable_weight g + step_in g o b
by_var g fs all ctx set left b n covers None e below = absurd (false≢true below)
by_var g fs all ctx set left b n covers (Some a) e below = floor_var g fs all set left b a (covers n a e) below

sum_head : (w s f a x : ℕ) → x ≤ w + s + f → f ≤ a → x ≤ w + a + s
sum_head w s f a x p q = omega (arith, p, q)

by_fit : (g : Parts) (fs : List Floor) → AllHold g fs → (set : List ℕ) (left b i : ℕ) (d : Decl) (a : ℕ) → slice_get g.decls i ≡ Some d → (x : Bool) → (x ≡ true → args_floor g fs set left d.args ≤ a)
    → some_below g (result_if (Some d) x) b ≡ true → floor_of fs set left b ≤ d.weight + a + step_in g (result_if (Some d) x) b
by_fit g fs all set left b i d a at false args below = absurd (false≢true below)
by_fit g fs all set left b i d a at true args below = sum_head d.weight (step_in g (Some d.result) b) (args_floor g fs set left d.args) a (floor_of fs set left b) (floor_head g fs all set left b i d at below) (args refl)

by_head : (g : Parts) (fs : List Floor) → AllHold g fs → (ctx : List (List ℕ)) (set : List ℕ) (left b i : ℕ) (xs : Args) → ((wanted : List Arg) → fits g ctx xs wanted ≡ true → args_floor g fs set left wanted ≤ args_weight g ctx xs wanted)
    → (o : Option Decl) → slice_get g.decls i ≡ o → some_below g (result_if o (fits g ctx xs (args_wanted o))) b ≡ true
    → floor_of fs set left b ≤ decl_weight o + args_weight g ctx xs (args_wanted o) + step_in g (result_if o (fits g ctx xs (args_wanted o))) b
by_head g fs all ctx set left b i xs args None at below = absurd (false≢true below)
by_head g fs all ctx set left b i xs args (Some d) at below = by_fit g fs all set left b i d (args_weight g ctx xs d.args) at (fits g ctx xs d.args) (args d.args) below

sum_plain : (w s a f r : ℕ) → f ≤ w + s → r ≤ a → f + r ≤ w + s + a
sum_plain w s a f r p q = omega (arith, p, q)

sum_lambda : (w n s a f r : ℕ) → f ≤ w + s → r ≤ a → n + f + r ≤ w + n + s + a
sum_lambda w n s a f r p q = omega (arith, p, q)

mutual
  unfolding type_in fits weight_in args_weight shallow args_shallow

  lower : (g : Parts) (fs : List Floor) → AllHold g fs → (e : Expr) (ctx : List (List ℕ)) (set : List ℕ) (left b : ℕ) → Covers set ctx → some_below g (type_in g ctx e) b ≡ true → shallow left e ≡ true
      → floor_of fs set left b ≤ weight_in g ctx e + step_in g (type_in g ctx e) b
  lower g fs all (var n) ctx set left b covers below deep = by_var g fs all ctx set left b n covers (slice_get (joined ctx) n) refl below
  lower g fs all (head i xs) ctx set left b covers below deep = by_head g fs all ctx set left b i xs (λ wanted fit. lower_args g fs all xs ctx set left wanted covers fit deep) (slice_get g.decls i) refl below

  lower_args : (g : Parts) (fs : List Floor) → AllHold g fs → (xs : Args) (ctx : List (List ℕ)) (set : List ℕ) (left : ℕ) (wanted : List Arg) → Covers set ctx → fits g ctx xs wanted ≡ true → args_shallow left xs ≡ true
      → args_floor g fs set left wanted ≤ args_weight g ctx xs wanted
  lower_args g fs all no_args ctx set left [] covers fit deep = omega arith
  lower_args g fs all no_args ctx set left (Plain b ∷ more) covers fit deep = absurd (false≢true fit)
  lower_args g fs all no_args ctx set left (Fun ps r ∷ more) covers fit deep = absurd (false≢true fit)
  lower_args g fs all (plain e rest) ctx set left [] covers fit deep = absurd (false≢true fit)
  lower_args g fs all (plain e rest) ctx set left (Fun ps r ∷ more) covers fit deep = absurd (false≢true fit)
  lower_args g fs all (lam e rest) ctx set left [] covers fit deep = absurd (false≢true fit)
  lower_args g fs all (lam e rest) ctx set left (Plain b ∷ more) covers fit deep = absurd (false≢true fit)
  lower_args g fs all (plain e rest) ctx set left (Plain b ∷ more) covers fit deep =
      let f = and_parts (some_below g (type_in g ctx e) b) (fits g ctx rest more) fit in
      let d = and_parts (shallow left e) (args_shallow left rest) deep in
      sum_plain (weight_in g ctx e) (step_in g (type_in g ctx e) b) (args_weight g ctx rest more) (floor_of fs set left b) (args_floor g fs set left more)
      (lower g fs all e ctx set left b covers f.0 d.0) (lower_args g fs all rest ctx set left more covers f.1 d.1)
  lower_args g fs all (lam e rest) ctx set zero (Fun ps r ∷ more) covers fit deep = absurd (false≢true deep)
  lower_args g fs all (lam e rest) ctx set (suc left) (Fun ps r ∷ more) covers fit deep =
      let h = and_parts (nat_lt (length ctx) 3 && some_below g (type_in g (ctx ++ ps ∷ []) e) r) (fits g ctx rest more) fit in
      let f = and_parts (nat_lt (length ctx) 3) (some_below g (type_in g (ctx ++ ps ∷ []) e) r) h.0 in
      let d = and_parts (shallow left e) (args_shallow (suc left) rest) deep in
      sum_lambda (weight_in g (ctx ++ ps ∷ []) e) (binders_weight g (length ps)) (step_in g (type_in g (ctx ++ ps ∷ []) e) r) (args_weight g ctx rest more) (floor_of fs (with_types ps set) left r) (args_floor g fs set (suc left) more)
      (lower g fs all e (ctx ++ ps ∷ []) (with_types ps set) left r (covers_more set ctx ps covers) f.1 d.0) (lower_args g fs all rest ctx set (suc left) more covers h.1 d.1)

first_is : (g : Parts) (fs : List Floor) (w : ℕ) → IsFirst g fs w → floor_of fs [] g.depth g.goal ≡ w
unfolding floor_of
first_is g [] w first = absurd first
first_is g (f ∷ fs) w first =
    let at : is_at [] g.depth g.goal f ≡ true = and_from (bytes_eq f.set []) ((f.left == g.depth) && (f.goal == g.goal)) ((bytes_eq-Decides f.set []).1 first.0) (and_from (f.left == g.depth) (f.goal == g.goal) (eq-eqb f.left g.depth first.1) (eq-eqb f.goal g.goal first.2)) in
    ap (λ x. if x then f.floor else floor_of fs [] g.depth g.goal) at ∙ first.3

pub bounds : (g : Parts) (fs : List Floor) (w : ℕ) → FloorsHold g fs w → (e : Expr) → IsInhabitant g e → w ≤ total_of g e
unfolding fits_place weigh
bounds g fs w holds e is =
    let in_limit = and_parts (fits_place g (goal_place g) e) (nat_le (total_of g e) g.limit) is in
    let fit = and_parts (some_below g (type_in g [] e) g.goal) (shallow g.depth e) in_limit.0 in
    subst (λ x. x ≤ total_of g e) (first_is g fs w holds.first) (lower g fs holds.each e [] [] g.depth g.goal covers_none fit.0 fit.1)

pub no_inhabitant : (g : Parts) (fs : List Floor) (w : ℕ) → FloorsHold g fs w → top g ≤ w → (e : Expr) → IsInhabitant g e → ⊥
no_inhabitant g fs w holds high e is =
    let in_limit = and_parts (fits_place g (goal_place g) e) (nat_le (total_of g e) g.limit) is in
    let small : total_of g e ≤ g.limit = leb-true (total_of g e) g.limit in_limit.1 in
    let low : w ≤ total_of g e = bounds g fs w holds e is in
    omega (arith, small, low, high)
