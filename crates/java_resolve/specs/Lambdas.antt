-- Lambdas that an expression may be.
use Rattle.std.specs.Prelude.{◌≡◌, ℕ, suc, Bool, true, ◌&&◌, List, [], ◌∷◌, length, Option, chars, bytes_eq}
use Rattle.terms.specs.Expr.{Expr, head, Args, no_args, lam}
use Rattle.terms.specs.Typing.{joined}
use Rattle.terms.specs.Text.{variable_text, parameters}
use Rattle.terms.specs.Apart.{Declares}
use Rattle.terms.specs.declared.parts.Arg.TheVariants.{Fun}
use Rattle.terms.specs.declared.parts.Decl.{Decl}
use Rattle.terms.specs.declared.parts.Parts.{Parts}
use Rattle.java_shapes.specs.Shape.{Shape, Shapes, no_shapes, shapes}
use Rattle.java_shapes.specs.ShapeOf.{binder_shapes}
use Rattle.java_resolve.specs.declared.heads.Kind.TheVariants as kind
use Rattle.java_resolve.specs.Found.{IsFound, Row, each, pick, suits, accepts, entry_in}
use Rattle.java_resolve.specs.Reading.{ReadAll, IsAmong}

-- a declaration of lambdas with these parameters, whose bodies are wanted at a type
abbrev pub WantsLambda : Decl → List ℕ → ℕ → Type 0
WantsLambda d ps r = (accepts kind.Lambda d.form ≡ true) × (d.args ≡ Fun ps r ∷ [])

-- the declaration of a number is one of lambdas, and where so many variables are bound theirs are these binders
pub record IsLambda (g : Parts) (n from : ℕ) (binders : List (List ℕ)) (d : Decl) (ps : List ℕ) (r : ℕ) : Type 0 where
  pub declared : Declares g n d
  pub wants : WantsLambda d ps r
  pub variables : binder_shapes g from (length ps) ≡ binders

-- whether words are the variables from this one on
unfoldable pub are_variables : Parts → ℕ → List (List ℕ) → Bool
are_variables g n [] = true
are_variables g n (w ∷ ws) = bytes_eq (chars (variable_text g n)) w && are_variables g (suc n) ws

-- a lambda over a body
abbrev pub lambda_over : ℕ → Expr → Expr
lambda_over n e = head n (lam e no_args)

-- the lambdas of a declaration over bodies that suit it
abbrev pub lambda_in : Parts → Decl → ℕ → ℕ → Option (List ℕ) → Row → Row
lambda_in g d n r cast row = entry_in d.result (each (lambda_over n) (pick (suits g d.crowded cast r) row))

-- a lambda of a type that passes the test, by the declaration of a number, with these binders and the shape of its body
pub record LambdaBy (g : Parts) (ctx : List (List ℕ)) (n : ℕ) (binders : List (List ℕ)) (ss : Shapes) (p : ℕ → Bool) (e : Expr) : Type 0 where
  pub args : Args
  pub is : e ≡ head n args
  pub decl : Decl
  pub declared : Declares g n decl
  pub accepted : accepts kind.Lambda decl.form ≡ true
  pub kind : p decl.result ≡ true
  pub read : ReadAll g ctx decl.crowded ss decl.args args
  pub variables : binder_shapes g (length (joined ctx)) (parameters decl.args) ≡ binders

-- the same by one of several declarations
pub record LambdaAmong (g : Parts) (ctx : List (List ℕ)) (ns : List ℕ) (binders : List (List ℕ)) (ss : Shapes) (p : ℕ → Bool) (e : Expr) : Type 0 where
  pub number : ℕ
  pub among : IsAmong ns number
  pub by : LambdaBy g ctx number binders ss p e

-- the row tells which lambdas with this body the declaration of a number gives
abbrev pub IsLambdaRow : Parts → List (List ℕ) → ℕ → List (List ℕ) → Option (List ℕ) → Shape → Row → Type 0
IsLambdaRow g ctx n binders cast body row = (p : ℕ → Bool) → IsFound (LambdaBy g ctx n binders (shapes cast body no_shapes) p) (pick p row)

-- or one of several
abbrev pub AreLambdas : Parts → List (List ℕ) → List ℕ → List (List ℕ) → Option (List ℕ) → Shape → Row → Type 0
AreLambdas g ctx ns binders cast body row = (p : ℕ → Bool) → IsFound (LambdaAmong g ctx ns binders (shapes cast body no_shapes) p) (pick p row)
