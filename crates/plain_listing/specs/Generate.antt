-- The lists that the generator makes of what its tables hold, in its order.
use Rattle.std.specs.Prelude.{ℕ, ◌+◌, ◌-◌, ◌==◌, ◌&&◌, nat_le, cond, List, [], ◌∷◌, ◌++◌, length, map, slice_get, Option, None, Some}
use Rattle.std.specs.List.{range_with_len, flat_map}
use Rattle.terms.specs.Expr.{Expr, var, head, Args, no_args}
use Rattle.terms.specs.Typing.{is_below, placed}
use Rattle.terms.specs.Weights.{variable_weight, binders_weight, step_in}
use Rattle.terms.specs.declared.parts.Arg.{Arg}
use Rattle.terms.specs.declared.parts.Arg.TheVariants.{Plain, Fun}
use Rattle.terms.specs.declared.parts.Decl.{Decl}
use Rattle.terms.specs.declared.parts.Parts.{Parts}

-- the terms of a weight for a wanted type, in one context
abbrev pub Table : Type 0
Table = ℕ → ℕ → List Expr

-- the tables under one lambda more, by its parameters
abbrev pub Inner : Type 0
Inner = List ℕ → Table

-- a lambda's body under binders that weigh n weighs n more
abbrev pub bound : (ℕ → List Expr) → ℕ → ℕ → List Expr
bound bodies n k = cond (nat_le n k) (bodies (k - n)) []

-- the terms that may stand at an argument and weigh k there
abbrev pub candidates : Parts → Table → Inner → Arg → ℕ → List Expr
candidates g here under (Plain b) k = here k b
candidates g here under (Fun ps r) k = bound (λ j. under ps j r) (binders_weight g (length ps)) k

-- each of the terms before each of the lists
abbrev pub firsts : Arg → List Expr → List Args → List Args
firsts a es more = flat_map (λ e. map (placed a e) more) es

-- all arguments for these places that weigh exactly w together
unfoldable pub fills : Parts → Table → Inner → List Arg → ℕ → List Args
fills g here under [] w = cond (w == 0) (no_args ∷ []) []
fills g here under (a ∷ more) w = flat_map (λ k. firsts a (candidates g here under a k) (fills g here under more (w - k))) (range_with_len 0 (w + 1))

-- what a declaration costs at a place for b, its arguments left out
abbrev pub cost : Parts → Decl → ℕ → ℕ
cost g d b = d.weight + step_in g (Some d.result) b

-- the terms with this declaration at the head
abbrev pub headed : Parts → Table → Inner → ℕ → ℕ → ℕ → Option Decl → List Expr
headed g here under w b n None = []
headed g here under w b n (Some d) = cond (is_below g d.result b && nat_le (cost g d b) w) (map (head n) (fills g here under d.args (w - cost g d b))) []

-- variable n, where its type stands for b and it weighs just w there
abbrev pub variable : Parts → ℕ → ℕ → ℕ → Option ℕ → List Expr
variable g w b n None = []
variable g w b n (Some a) = cond (is_below g a b && (variable_weight g + step_in g (Some a) b == w)) (var n ∷ []) []

-- the variables that stand for b and weigh w there
abbrev pub variables : Parts → List ℕ → ℕ → ℕ → List Expr
variables g vs w b = flat_map (λ n. variable g w b n (slice_get vs n)) (range_with_len 0 (length vs))

-- the other terms
abbrev pub heads : Parts → Table → Inner → ℕ → ℕ → List Expr
heads g here under w b = flat_map (λ n. headed g here under w b n (slice_get g.decls n)) (range_with_len 0 (length g.decls))

-- all terms for b that weigh exactly w, where vs are the types of the variables
abbrev pub made : Parts → List ℕ → Table → Inner → ℕ → ℕ → List Expr
made g vs here under w b = variables g vs w b ++ heads g here under w b
