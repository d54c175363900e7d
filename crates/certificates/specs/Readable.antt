-- Parts whose rows can be told.
use Rattle.std.specs.Prelude.{◌≡◌, ℕ, ◌+◌, ◌<◌, ◌^◌, true, List, length, Some}
use Rattle.terms.specs.Expr.{Expr, Args}
use Rattle.terms.specs.Typing.{joined, type_in, fits}
use Rattle.terms.specs.Weights.{weight_in, args_weight}
use Rattle.terms.specs.declared.parts.Arg.{Arg}
use Rattle.terms.specs.declared.parts.Parts.{Parts}
use Rattle.checker.specs.declared.row.Row.{Row}

-- the part has a type, and with the variables in scope it weighs less than 2 ^ 31
pub record IsReadable (g : Parts) (ctx : List (List ℕ)) (e : Expr) : Type 0 where
  pub result : ℕ
  pub typed : type_in g ctx e ≡ Some result
  pub light : length (joined ctx) + weight_in g ctx e < 2 ^ 31

-- so do arguments
pub record AreReadable (g : Parts) (ctx : List (List ℕ)) (xs : Args) (wanted : List Arg) : Type 0 where
  pub fit : fits g ctx xs wanted ≡ true
  pub light : length (joined ctx) + args_weight g ctx xs wanted < 2 ^ 31

-- the type and the weight of a part
pub record IsRated (g : Parts) (ctx : List (List ℕ)) (e : Expr) (r : Row) : Type 0 where
  pub typed : type_in g ctx e ≡ Some r.result
  pub weighs : r.weight ≡ weight_in g ctx e
