-- Which shapes are expressions: the grammar of the texts that terms have. Names are JLS 6.5, fields 15.11, calls
-- 15.12, creation 15.9, casts 15.16, lambdas 15.27. The binders of lambdas are one text with digits.
use Rattle.std.specs.Prelude.{◌≡◌, ℕ, zero, suc, true, List, [], ◌∷◌, ◌++◌, Option, Some, None, ◌⊎◌}
use Rattle.std.specs.List.{list_all}
use Rattle.java_units.specs.Signs.{has}
use Rattle.java_units.specs.Forms.{primitives}
use Rattle.java_shapes.specs.Words.{IsQualified, IsNamePath, IsCallPath, is_binder}
use Rattle.java_shapes.specs.Shape.{Shape, named, called, lambda, Before, nothing, fresh, behind, in_brackets, Shapes, no_shapes, shapes, shown}

-- n times `[]`
unfoldable pub dimensions : ℕ → List ℕ
dimensions zero = []
dimensions (suc n) = 91 ∷ 93 ∷ dimensions n

-- a type: identifiers joined by dots, or a primitive type, and dimensions (JLS 4.2, 4.3)
pub record IsType (t : List ℕ) : Type 0 where
  pub base : List ℕ
  pub count : ℕ
  pub base_is : IsQualified base ⊎ (has primitives base ≡ true)
  pub is : t ≡ base ++ dimensions count

-- the type of a cast, where there is one
abbrev pub IsCast : Option (List ℕ) → Type 0
IsCast None = Unit {0}
IsCast (Some t) = IsType t

-- a name behind what stands before it: only behind nothing it may begin with a literal or `this`, and no name
-- stands behind `new`
abbrev pub IsNameBehind : Before → List ℕ → Type 0
IsNameBehind nothing t = IsNamePath t
IsNameBehind fresh t = ⊥
IsNameBehind (behind b s args) t = IsQualified t
IsNameBehind (in_brackets c e) t = IsQualified t

-- the name of a call behind what stands before it
abbrev pub IsCallBehind : Before → List ℕ → Type 0
IsCallBehind nothing t = IsCallPath t
IsCallBehind fresh t = IsQualified t
IsCallBehind (behind b s args) t = IsQualified t
IsCallBehind (in_brackets c e) t = IsQualified t

-- a receiver stands in brackets just where it has a cast or is a lambda
abbrev pub NeedsBrackets : Option (List ℕ) → Shape → Type 0
NeedsBrackets (Some t) e = Unit {0}
NeedsBrackets None (named b t) = ⊥
NeedsBrackets None (called b t args) = ⊥
NeedsBrackets None (lambda s binders c e) = Unit {0}

unfoldable mutual
  -- an expression, where binders begin with this text
  pub IsShape : List ℕ → Shape → Type 0
  IsShape p (named b t) = IsBefore p b × IsNameBehind b t
  IsShape p (called b t args) = IsBefore p b × IsCallBehind b t × AreShapes p args
  IsShape p (lambda s binders c e) = IsQualified s × (list_all (is_binder p) binders ≡ true) × IsCast c × IsShape p e

  pub IsBefore : List ℕ → Before → Type 0
  IsBefore p nothing = Unit {0}
  IsBefore p fresh = Unit {0}
  IsBefore p (behind b t args) = IsBefore p b × IsCallBehind b t × AreShapes p args
  IsBefore p (in_brackets c e) = IsCast c × IsShape p e × NeedsBrackets c e

  pub AreShapes : List ℕ → Shapes → Type 0
  AreShapes p no_shapes = Unit {0}
  AreShapes p (shapes c e rest) = IsCast c × IsShape p e × AreShapes p rest

-- an expression begins so
pub record IsBegun (p : List ℕ) (t : List ℕ) : Type 0 where
  pub shape : Shape
  pub well_formed : IsShape p shape
  pub rest : List ℕ
  pub is : shown shape ≡ t ++ rest
