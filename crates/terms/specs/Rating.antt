-- The type and the weight of a term at once, as one walk over the term finds them. Weights above 2^32 stand for 2^32.
use Rattle.std.specs.Prelude.{ℕ, ◌+◌, min, Bool, ◌&&◌, nat_le, if◌then◌else◌, List, [], ◌∷◌, Option, Some, None}
use Rattle.terms.specs.Expr.{Expr, Args, no_args}
use Rattle.terms.specs.View.{arg}
use Rattle.terms.specs.Typing.{type_in, fits, is_below}
use Rattle.terms.specs.Place.{shallow}
use Rattle.terms.specs.Weights.{weight_in, args_weight, step_in}
use Rattle.terms.specs.declared.parts.Arg.{Arg}
use Rattle.terms.specs.declared.parts.Decl.{Decl}
use Rattle.terms.specs.declared.parts.Parts.{Parts}
use Rattle.terms.specs.declared.rating.Rating.{Rating}
use Rattle.terms.specs.declared.term.TermArg.{TermArg}

-- a weight, up to 2^32
abbrev pub capped : ℕ → ℕ
capped n = min n 4294967296

-- a type with its weight
abbrev pub with_weight : Option ℕ → ℕ → Option Rating
with_weight None w = None
with_weight (Some t) w = Some (record { result = t; weight = capped w })

-- a term under these rows
unfoldable pub rated : Parts → List (List ℕ) → Expr → Option Rating
rated g ctx e = with_weight (type_in g ctx e) (weight_in g ctx e)

-- a weight, where the test holds
abbrev pub capped_if : Bool → ℕ → Option ℕ
capped_if b w = if b then Some (capped w) else None

-- arguments at their places
unfoldable pub rated_args : Parts → List (List ℕ) → Args → List Arg → Option ℕ
rated_args g ctx xs wanted = capped_if (fits g ctx xs wanted) (args_weight g ctx xs wanted)

-- one argument at its place
unfoldable pub rated_arg : Parts → List (List ℕ) → TermArg → Arg → Option ℕ
rated_arg g ctx a wanted = rated_args g ctx (arg a no_args) (wanted ∷ [])

-- what was rated, where b is wanted, under binders of this weight
abbrev pub at_place : Parts → Option Rating → ℕ → ℕ → Option ℕ
at_place g None b binders = None
at_place g (Some r) b binders = if is_below g r.result b then Some (capped (r.weight + binders + step_in g (Some r.result) b)) else None

-- a declaration over what its arguments weigh
abbrev pub over : Option Decl → Option ℕ → Option Rating
over None r = None
over (Some d) None = None
over (Some d) (Some w) = Some (record { result = d.result; weight = capped (d.weight + w) })

-- two sums, where there are both
abbrev pub plus : Option ℕ → Option ℕ → Option ℕ
plus None b = None
plus (Some a) None = None
plus (Some a) (Some b) = Some (capped (a + b))

-- whether a closed term with this rating is an inhabitant
unfoldable pub is_wanted : Parts → Rating → Expr → Bool
is_wanted g r e = (is_below g r.result g.goal && shallow g.depth e) && nat_le (r.weight + step_in g (Some r.result) g.goal) g.limit
