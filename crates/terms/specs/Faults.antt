-- What is wrong with the parts of an environment, first things first, and when nothing is.
use Rattle.std.specs.Prelude.{◌≡◌, ℕ, zero, suc, ◌+◌, ◌^◌, ◌<◌, Bool, true, false, ◌&&◌, not, nat_lt, ◌==◌, List, [], ◌∷◌, ◌++◌, length, Option, Some, None}
use Rattle.std.specs.List.{list_all}
use Rattle.terms.specs.Typing.{is_pair}
use Rattle.terms.specs.declared.parts.Arg.{Arg}
use Rattle.terms.specs.declared.parts.Arg.TheVariants.{Plain, Fun}
use Rattle.terms.specs.declared.parts.Decl.{Decl}
use Rattle.terms.specs.declared.parts.Form.{Form}
use Rattle.terms.specs.declared.parts.Form.TheVariants as form
use Rattle.terms.specs.declared.parts.Parts.{Parts}
use Rattle.terms.specs.declared.fault.EnvFault.{EnvFault}
use Rattle.terms.specs.declared.fault.EnvFault.TheVariants.{TypeRange, PairRange, PairTwice, Weight, Limit, NotTransitive, Depth, Step}
use Rattle.terms.specs.declared.fault.EnvFault.TheVariants as fault

-- the first of two, where there is one, else the second
abbrev pub or_then : {X : Type 0} → Option X → Option X → Option X
or_then None b = b
or_then (Some a) b = Some a

-- the fault, where the test fails
abbrev pub unless : Bool → EnvFault → Option EnvFault
unless true f = None
unless false f = Some f

-- the first answer at the numbers below n, in order
unfoldable pub first_below : {X : Type 0} → (ℕ → Option X) → ℕ → Option X
first_below f zero = None
first_below f (suc n) = or_then (first_below f n) (f n)

-- a fault, unless the limit is from 1 to 10,000
abbrev pub limit_fault : Parts → Option EnvFault
limit_fault g = unless (nat_lt 0 g.limit && nat_lt g.limit 10001) (Limit g.limit)

-- lambdas of an environment nest at most this deep
abbrev pub greatest_depth : ℕ
greatest_depth = 3

-- a fault, unless the depth is at most the greatest
abbrev pub depth_fault : Parts → Option EnvFault
depth_fault g = unless (nat_lt g.depth (greatest_depth + 1)) (Depth g.depth)

-- fault i of the steps, unless the number is from 1 to the greatest
abbrev pub step_fault : ℕ → ℕ → ℕ → Option EnvFault
step_fault i n greatest = unless (nat_lt 0 n && nat_lt n (greatest + 1)) (Step i)

-- the first of the three weights that is out of its range: of a use of a variable and of a binder, from 1 to 100, and
-- of a coercion, from 1 to 10,000
abbrev pub steps_fault : Parts → Option EnvFault
steps_fault g = or_then (step_fault 1 g.steps.bound 100) (or_then (step_fault 2 g.steps.binder 100) (step_fault 3 g.steps.step 10000))

-- pair n, after these pairs: both sides are type numbers and differ, and it didn't stand before
unfoldable pub pair_fault : ℕ → ℕ → List (ℕ × ℕ) → ℕ × ℕ → Option EnvFault
pair_fault types n earlier p =
    or_then (unless ((nat_lt p.0 types && nat_lt p.1 types) && not (p.0 == p.1)) (PairRange n)) (unless (not (is_pair earlier p.0 p.1)) (PairTwice n))

-- the pairs in order; n of them came earlier
unfoldable pub pairs_fault : ℕ → ℕ → List (ℕ × ℕ) → List (ℕ × ℕ) → Option EnvFault
pairs_fault types n earlier [] = None
pairs_fault types n earlier (p ∷ more) = or_then (pair_fault types n earlier p) (pairs_fault types (n + 1) (earlier ++ p ∷ []) more)

-- (a, b) and (b, c) are pairs and (a, c) isn't
abbrev pub is_gap : List (ℕ × ℕ) → ℕ → ℕ → ℕ → Bool
is_gap pairs a b c = (is_pair pairs a b && is_pair pairs b c) && not (is_pair pairs a c)

-- the least such triple: the least a, for it the least b, for both the least c
unfoldable pub order_fault : ℕ → List (ℕ × ℕ) → Option EnvFault
order_fault types pairs = first_below (λ a. first_below (λ b. first_below (λ c. unless (not (is_gap pairs a b c)) (NotTransitive a b c)) types) types) types

-- the types that a place wants are types
abbrev pub is_arg_known : ℕ → Arg → Bool
is_arg_known types (Plain b) = nat_lt b types
is_arg_known types (Fun ps r) = list_all (λ p. nat_lt p types) ps && nat_lt r types

-- no place wants a lambda
abbrev pub are_plain : List Arg → Bool
are_plain [] = true
are_plain (Plain b ∷ more) = are_plain more
are_plain (Fun ps r ∷ more) = false

-- the arguments suit the form: a name or `this` has none, a method at least its receiver, a field just its receiver,
-- a lambda one place for a lambda; and no other form has a place for a lambda
abbrev pub is_well_formed : Form → List Arg → Bool
is_well_formed (form.Name s) [] = true
is_well_formed form.This [] = true
is_well_formed (form.Call s) xs = are_plain xs
is_well_formed (form.New s) xs = are_plain xs
is_well_formed (form.Method s) (Plain b ∷ more) = are_plain more
is_well_formed (form.Field s hidden) (Plain b ∷ []) = true
is_well_formed (form.Lambda s) (Fun ps r ∷ []) = true
is_well_formed _ _ = false

-- declaration n: its types are types, its weight is from 5 to 10,000, and its arguments suit its form
unfoldable pub decl_fault : ℕ → ℕ → Decl → Option EnvFault
decl_fault types n d =
    or_then (unless (list_all (is_arg_known types) d.args && nat_lt d.result types) (TypeRange n))
    (or_then (unless (nat_lt 4 d.weight && nat_lt d.weight 10001) (Weight n))
    (unless (is_well_formed d.form d.args) (fault.Form n)))

-- the declarations in order; n of them came earlier
unfoldable pub decls_fault : ℕ → ℕ → List Decl → Option EnvFault
decls_fault types n [] = None
decls_fault types n (d ∷ more) = or_then (decl_fault types n d) (decls_fault types (n + 1) more)

-- the goal is a type
abbrev pub goal_fault : Parts → Option EnvFault
goal_fault g = unless (nat_lt g.goal (length g.types)) (TypeRange (length g.decls))

-- the first fault of the parts: limit, depth, steps, pairs, transitivity, declarations, goal
unfoldable pub first_env_fault : Parts → Option EnvFault
first_env_fault g =
    or_then (limit_fault g)
    (or_then (depth_fault g)
    (or_then (steps_fault g)
    (or_then (pairs_fault (length g.types) 0 [] g.pairs)
    (or_then (order_fault (length g.types) g.pairs)
    (or_then (decls_fault (length g.types) 0 g.decls) (goal_fault g))))))

-- the parts are an environment
abbrev pub IsValid : Parts → Type 0
IsValid g = first_env_fault g ≡ None

-- types and pairs are fewer than 2^32, declarations fewer than 2^31, and fewer than 2^32 with the pairs
pub record HasLengths (g : Parts) : Type 0 where
  pub types : length g.types < 2 ^ 32
  pub pairs : length g.pairs < 2 ^ 32
  pub decls : length g.decls < 2 ^ 31
  pub together : length g.decls + length g.pairs < 2 ^ 32
