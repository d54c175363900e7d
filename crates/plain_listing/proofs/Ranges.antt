-- What the declarations and numbers of a valid environment are.
use Rattle.std.proofs.Common.{◌≡◌, ℕ, zero, suc, ◌+◌, ◌<◌, ◌≤◌, Bool, true, false, List, [], ◌∷◌, length, Option, None, Some, slice_get, refl, subst, arith}
use Rattle.std.specs.List.{list_all}
use Rattle.std.proofs.lemmas.Bool.{and_parts, ltb-true}
use Rattle.std.proofs.lemmas.Option.{slice_get_within}
use Rattle.terms.specs.Typing.{most_rows}
use Rattle.terms.specs.Faults.{or_then, unless, is_arg_known, decl_fault, decls_fault, pairs_fault, order_fault, limit_fault, greatest_depth, depth_fault, steps_fault, goal_fault, first_env_fault, IsValid}
use Rattle.terms.specs.declared.fault.EnvFault.{EnvFault}
use Rattle.terms.specs.declared.fault.EnvFault.TheVariants.{TypeRange, Weight, Limit, Depth}
use Rattle.terms.specs.declared.parts.Decl.{Decl}
use Rattle.terms.specs.declared.parts.Parts.{Parts}

first_none : {X : Type 0} (a b : Option X) → or_then a b ≡ None → a ≡ None
first_none None b h = refl
first_none (Some x) b h = cc

second_none : {X : Type 0} (a b : Option X) → or_then a b ≡ None → b ≡ None
second_none None b h = h
second_none (Some x) b h = cc

met : (t : Bool) (f : EnvFault) → unless t f ≡ None → t ≡ true
met true f h = refl
met false f h = cc

-- a declaration wants known types and weighs something
pub record IsInRange (types : ℕ) (d : Decl) : Type 0 where
  pub args : list_all (is_arg_known types) d.args ≡ true
  pub heavy : 0 < d.weight

-- the numbers of an environment
pub record Ranges (g : Parts) : Type 0 where
  pub limit : g.limit ≤ 10000
  pub depth : g.depth ≤ most_rows
  pub goal : g.goal < length g.types
  pub decls : (n : ℕ) (d : Decl) → slice_get g.decls n ≡ Some d → IsInRange (length g.types) d

in_range : (types n : ℕ) (d : Decl) → decl_fault types n d ≡ None → IsInRange types d
unfolding decl_fault
in_range types n d h =
    let known = met _ (TypeRange n) (first_none _ _ h) in
    let weighs = met _ (Weight n) (first_none _ _ (second_none _ _ h)) in
    record {
      args = (and_parts _ _ known).0;
      heavy = omega (arith, ltb-true 4 d.weight (and_parts _ _ weighs).0);
    }

at_each : (types n : ℕ) (ds : List Decl) → decls_fault types n ds ≡ None → (m : ℕ) (d : Decl) → slice_get ds m ≡ Some d → IsInRange types d
unfolding decls_fault
at_each types n [] h m d is = absurd (omega (arith, slice_get_within [] m d is))
at_each types n (x ∷ ds) h zero d is =
    let e : x ≡ d = cc in
    let P : Decl → Type 0 = λ y. decl_fault types n y ≡ None in
    in_range types n d (subst P e (first_none _ _ h))
at_each types n (x ∷ ds) h (suc m) d is = at_each types (n + 1) ds (second_none _ _ h) m d is

pub ranges : (g : Parts) → IsValid g → Ranges g
unfolding first_env_fault
ranges g h =
    let after_limit = second_none (limit_fault g) _ h in
    let after_depth = second_none (depth_fault g) _ after_limit in
    let after_steps = second_none (steps_fault g) _ after_depth in
    let after_pairs = second_none (pairs_fault (length g.types) 0 [] g.pairs) _ after_steps in
    let after_order = second_none (order_fault (length g.types) g.pairs) _ after_pairs in
    record {
      limit = omega (arith, ltb-true g.limit 10001 (and_parts _ _ (met _ (Limit g.limit) (first_none (limit_fault g) _ h))).1);
      depth = omega (arith, ltb-true g.depth (greatest_depth + 1) (met _ (Depth g.depth) (first_none (depth_fault g) _ after_limit)));
      goal = ltb-true g.goal (length g.types) (met _ (TypeRange (length g.decls)) (second_none (decls_fault (length g.types) 0 g.decls) (goal_fault g) after_order));
      decls = at_each (length g.types) 0 g.decls (first_none (decls_fault (length g.types) 0 g.decls) (goal_fault g) after_order);
    }
