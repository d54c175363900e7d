-- How many dimensions the types of a unit have.
use Rattle.std.specs.Prelude.{ℕ, ◌+◌, ◌*◌, ◌^◌, ◌<◌, ◌≤◌, max, List, [], ◌∷◌, length, Option, Some, None}
use Rattle.java_tokens.specs.declared.token.Token.{Token}
use Rattle.java_tokens.specs.Tokens.{Tile}
use Rattle.java_units.specs.declared.types.TypeText.{TypeText}
use Rattle.java_units.specs.declared.types.TypeVar.{TypeVar}
use Rattle.java_units.specs.declared.types.Param.{Param}
use Rattle.java_units.specs.declared.types.SourceMethod.{SourceMethod}
use Rattle.java_units.specs.declared.types.SourceClass.{SourceClass}

-- These numbers, added up.
abbrev pub total : {A : Type 0} → (A → ℕ) → List A → ℕ
total f [] = 0
total f (x ∷ xs) = f x + total f xs

-- The greatest of these numbers.
abbrev pub greatest : {A : Type 0} → (A → ℕ) → List A → ℕ
greatest f [] = 0
greatest f (x ∷ xs) = max (f x) (greatest f xs)

-- A sum over the bounds of variables.
abbrev pub over_vars : (Option TypeText → ℕ) → List TypeVar → ℕ
over_vars f vs = total (λ v. f v.bound) vs

-- The dimensions of a bound, or of a result.
abbrev pub bound_dims : Option TypeText → ℕ
bound_dims None = 0
bound_dims (Some b) = b.dims

-- The dimensions of all bounds of type variables of a class and its methods, added up.
abbrev pub class_dims : SourceClass → ℕ
class_dims c = over_vars bound_dims c.vars + total (λ m. over_vars bound_dims m.vars) c.methods

-- The dimensions of all bounds of type variables in a text, added up.
abbrev pub dims_of_bounds : List SourceClass → ℕ
dims_of_bounds cs = total class_dims cs

abbrev pub params_dims : List Param → ℕ
params_dims ps = greatest (λ p. p.kind.dims) ps

abbrev pub method_dims : SourceMethod → ℕ
method_dims m = max (params_dims m.params) (bound_dims m.result)

-- The greatest dimensions of a super, or of the type of a field, a parameter or a result, of a class.
abbrev pub type_dims : SourceClass → ℕ
type_dims c = max (greatest (λ t. t.dims) c.supers) (max (greatest (λ f. f.kind.dims) c.fields) (greatest method_dims c.methods))

-- The types of these classes have few dimensions: those of any one type and of all bounds, added up, are at
-- most twice as many as the tokens, and below 2^64 for each text of at most 16 MiB, whose tokens tile it.
pub record HasFewDims (text : List ℕ) (tokens : List Token) (classes : List SourceClass) : Type 0 where
  pub few : greatest type_dims classes + dims_of_bounds classes ≤ 2 * length tokens
  pub bounds : 2 * dims_of_bounds classes ≤ length tokens
  pub fits : length text ≤ 16777216 → Tile 0 (length text) tokens → greatest type_dims classes + dims_of_bounds classes < 2 ^ 64
