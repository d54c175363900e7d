-- Rows read one by one: the parts that are still being read, and the sum of the weights so far.
use Rattle.std.specs.Prelude.{ℕ, zero, suc, ◌+◌, Bool, ◌&&◌, ◌==◌, nat_lt, nat_le, if◌then◌else◌, List, [], ◌∷◌, ◌++◌, length, slice_get, Option, Some, None}
use Rattle.terms.specs.Typing.{most_rows, is_below, joined}
use Rattle.terms.specs.Weights.{variable_weight, binders_weight, step_in}
use Rattle.terms.specs.Reading.{Symbol, variable, declared, symbol, and_then}
use Rattle.terms.specs.declared.parts.Arg.{Arg}
use Rattle.terms.specs.declared.parts.Arg.TheVariants.{Plain, Fun}
use Rattle.terms.specs.declared.parts.Decl.{Decl}
use Rattle.terms.specs.declared.parts.Parts.{Parts}
use Rattle.checker.specs.declared.row.Row.{Row}

-- a part that is being read: its context, how many more lambdas may nest, the arguments that are still to come, and
-- the sum at which it ends
pub record Frame : Type 0 where
  pub ctx : List (List ℕ)
  pub left : ℕ
  pub wanted : List Arg
  pub end : ℕ

-- where a part is wanted, and what the binders of its lambda weigh
pub record Spot : Type 0 where
  pub ctx : List (List ℕ)
  pub left : ℕ
  pub wanted : ℕ
  pub binders : ℕ

-- a head: the type that it gives, what it weighs itself, and the arguments that it wants
pub record Head : Type 0 where
  pub result : ℕ
  pub weight : ℕ
  pub args : List Arg

-- the sum so far, and the parts that are being read, the innermost first
pub record Walk : Type 0 where
  pub sum : ℕ
  pub frames : List Frame

-- the place of an argument; none for a lambda where no lambda may stand
unfoldable pub spot_of : Parts → List (List ℕ) → ℕ → Arg → Option Spot
spot_of g ctx left (Plain b) = Some (record { ctx = ctx; left = left; wanted = b; binders = 0 })
spot_of g ctx zero (Fun ps r) = None
spot_of g ctx (suc left) (Fun ps r) = if nat_lt (length ctx) most_rows then Some (record { ctx = ctx ++ ps ∷ []; left = left; wanted = r; binders = binders_weight g (length ps) }) else None

-- a variable of a type, and a declaration, as heads
abbrev pub variable_head : Parts → Option ℕ → Option Head
variable_head g None = None
variable_head g (Some t) = Some (record { result = t; weight = variable_weight g; args = [] })

abbrev pub declared_head : Option Decl → Option Head
declared_head None = None
declared_head (Some d) = Some (record { result = d.result; weight = d.weight; args = d.args })

abbrev pub head_by : Parts → List (List ℕ) → Symbol → Option Head
head_by g ctx (variable n) = variable_head g (slice_get (joined ctx) n)
head_by g ctx (declared d) = declared_head (slice_get g.decls d)

-- the head of a number of a prefix code
unfoldable pub head_of : Parts → List (List ℕ) → ℕ → Option Head
head_of g ctx code = head_by g ctx (symbol code)

-- a part ends where no argument is still to come, and then at its sum
abbrev pub closed_by : List Arg → ℕ → ℕ → Option (List Frame) → List Frame → Option (List Frame)
closed_by [] w end rest all = if w == end then rest else None
closed_by (a ∷ more) w end rest all = Some all

-- the parts that are still being read once all others have ended; none where one of them doesn't end at its sum
unfoldable pub closed : ℕ → List Frame → Option (List Frame)
closed w [] = Some []
closed w (f ∷ fs) = closed_by f.wanted w f.end (closed w fs) (f ∷ fs)

-- a head may stand for the row at this place, and the sum stays within the limit
unfoldable pub may_stand : Parts → ℕ → Spot → Head → Row → Bool
may_stand g w p h r = (h.result == r.result && is_below g h.result p.wanted) && nat_le (w + p.binders + step_in g (Some h.result) p.wanted + h.weight) g.limit

-- the part that a head begins, up to the end of what it ends
unfoldable pub entered : Parts → ℕ → Spot → Head → Row → List Frame → Option Walk
entered g w p h r fs =
    and_then
    (closed (w + p.binders + step_in g (Some h.result) p.wanted + h.weight) (record { ctx = p.ctx; left = p.left; wanted = h.args; end = w + p.binders + step_in g (Some h.result) p.wanted + r.weight } ∷ fs))
    (λ gs. Some (record { sum = w + p.binders + step_in g (Some h.result) p.wanted + h.weight; frames = gs }))

-- the part that a row begins at a place
abbrev pub begun_by : Parts → ℕ → Spot → Row → List Frame → Option Head → Option Walk
begun_by g w p r fs None = None
begun_by g w p r fs (Some h) = if may_stand g w p h r then entered g w p h r fs else None

unfoldable pub begun : Parts → ℕ → Spot → Row → List Frame → Option Walk
begun g w p r fs = begun_by g w p r fs (head_of g p.ctx r.code)

-- the next argument of the innermost part begins with this row
abbrev pub row_by : Parts → ℕ → Frame → List Arg → List Frame → Row → Option Walk
row_by g w f [] fs r = None
row_by g w f (a ∷ more) fs r = and_then (spot_of g f.ctx f.left a) (λ p. begun g w p r (record { ctx = f.ctx; left = f.left; wanted = more; end = f.end } ∷ fs))

unfoldable pub row_read : Parts → ℕ → List Frame → Row → Option Walk
row_read g w [] r = None
row_read g w (f ∷ fs) r = row_by g w f f.wanted fs r

-- the sum, where no part is still being read
abbrev pub sum_if : ℕ → List Frame → Option ℕ
sum_if w [] = Some w
sum_if w (f ∷ fs) = None

-- the sum after all rows, where each part has ended then
unfoldable pub read_rows : Parts → ℕ → List Frame → List Row → Option ℕ
read_rows g w fs [] = sum_if w fs
read_rows g w fs (r ∷ rs) = and_then (row_read g w fs r) (λ s. read_rows g s.sum s.frames rs)

-- the frame around the whole term, which ends at the total that its first row tells
abbrev pub goal_frame : Parts → ℕ → Frame
goal_frame g total = record { ctx = []; left = g.depth; wanted = Plain g.goal ∷ []; end = total }
