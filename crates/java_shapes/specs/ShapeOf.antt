-- The shape of a term: what its text shows.
use Rattle.std.specs.Prelude.{ℕ, Bool, true, false, ◌&&◌, not, List, [], ◌∷◌, ◌++◌, length, map, slice_get, chars, Option, Some, None, is_some, codes}
use Rattle.std.specs.List.{range_with_len}
use Rattle.std.specs.Option.{option_map}
use Rattle.terms.specs.Expr.{Expr, var, head, Args, no_args, plain, lam}
use Rattle.terms.specs.Typing.{type_in, joined, args_wanted}
use Rattle.terms.specs.Text.{variable_text, cast_of, is_crowded, is_this, head_decl, parameters}
use Rattle.terms.specs.declared.parts.Arg.{Arg}
use Rattle.terms.specs.declared.parts.Arg.TheVariants.{Plain, Fun}
use Rattle.terms.specs.declared.parts.Decl.{Decl}
use Rattle.terms.specs.declared.parts.Form.{Form}
use Rattle.terms.specs.declared.parts.Form.TheVariants.{Name, This, Call, New, Method, Field, Lambda}
use Rattle.terms.specs.declared.parts.Parts.{Parts}
use Rattle.java_shapes.specs.Shape.{Shape, named, called, lambda, Before, nothing, fresh, behind, in_brackets, Shapes, no_shapes, shapes}

-- the characters of the cast that is printed before a term
abbrev pub cast_shape : Parts → Bool → Option ℕ → ℕ → Option (List ℕ)
cast_shape g crowded t b = option_map chars (cast_of g crowded t b)

-- what a receiver leaves before the word behind its dot
abbrev pub before_of : Option (List ℕ) → Shape → Before
before_of (Some c) e = in_brackets (Some c) e
before_of None (named b t) = b
before_of None (called b t args) = behind b t args
before_of None (lambda s binders c e) = in_brackets None (lambda s binders c e)

-- the word behind a receiver's dot, with the names of the receiver before it
abbrev pub path_of : Option (List ℕ) → Shape → List ℕ → List ℕ
path_of (Some c) e w = w
path_of None (named b t) w = t ++ 46 ∷ w
path_of None (called b t args) w = w
path_of None (lambda s binders c e) w = w

-- a method: the flag says that its receiver is a bare `this`, which is left out
abbrev pub method_shape : Bool → List ℕ → Shapes → Shape
method_shape bare w no_shapes = named nothing []
method_shape true w (shapes c e rest) = called nothing w rest
method_shape false w (shapes c e rest) = called (before_of c e) (path_of c e w) rest

-- a field: the flag says that its receiver is left out
abbrev pub field_shape : Bool → List ℕ → Shapes → Shape
field_shape left_out w no_shapes = named nothing []
field_shape true w (shapes c e rest) = named nothing w
field_shape false w (shapes c e rest) = named (before_of c e) (path_of c e w)

-- a lambda
abbrev pub lambda_shape : List ℕ → List (List ℕ) → Shapes → Shape
lambda_shape s binders no_shapes = named nothing []
lambda_shape s binders (shapes c e rest) = lambda s binders c e

-- whether the first argument has no cast
abbrev pub is_first_uncast : Shapes → Bool
is_first_uncast no_shapes = false
is_first_uncast (shapes c e rest) = not (is_some c)

-- a form over the shapes of its arguments; `this` says that the first of them is `this`
abbrev pub form_shape : Form → List (List ℕ) → Bool → Shapes → Shape
form_shape (Name s) binders this args = named nothing (chars s)
form_shape This binders this args = named nothing (codes "this")
form_shape (Call s) binders this args = called nothing (chars s) args
form_shape (New s) binders this args = called fresh (chars s) args
form_shape (Method s) binders this args = method_shape (this && is_first_uncast args) (chars s) args
form_shape (Field s hidden) binders this args = field_shape ((this && is_first_uncast args) && not hidden) (chars s) args
form_shape (Lambda s) binders this args = lambda_shape (chars s) binders args

-- the binders of a lambda under so many variables
abbrev pub binder_shapes : Parts → ℕ → ℕ → List (List ℕ)
binder_shapes g from count = map (λ n. chars (variable_text g n)) (range_with_len from count)

-- a declaration over the shapes of its arguments, where so many variables are bound
abbrev pub decl_shape : Parts → ℕ → Option Decl → Bool → Shapes → Shape
decl_shape g bound None this args = named nothing []
decl_shape g bound (Some d) this args = form_shape d.form (binder_shapes g bound (parameters d.args)) this args

-- whether the first argument is `this`
abbrev pub is_first_this : Parts → Args → Bool
is_first_this g no_args = false
is_first_this g (plain e rest) = is_this (head_decl g e)
is_first_this g (lam e rest) = false

unfoldable mutual
  -- the shape of a term under these rows
  pub shape_in : Parts → List (List ℕ) → Expr → Shape
  shape_in g ctx (var n) = named nothing (chars (variable_text g n))
  shape_in g ctx (head d xs) = decl_shape g (length (joined ctx)) (slice_get g.decls d) (is_first_this g xs) (shapes_in g ctx (is_crowded (slice_get g.decls d)) xs (args_wanted (slice_get g.decls d)))

  -- the shapes of arguments at their places
  pub shapes_in : Parts → List (List ℕ) → Bool → Args → List Arg → Shapes
  shapes_in g ctx crowded (plain e rest) (Plain b ∷ more) = shapes (cast_shape g crowded (type_in g ctx e) b) (shape_in g ctx e) (shapes_in g ctx crowded rest more)
  shapes_in g ctx crowded (lam e rest) (Fun ps r ∷ more) = shapes (cast_shape g crowded (type_in g (ctx ++ ps ∷ []) e) r) (shape_in g (ctx ++ ps ∷ []) e) (shapes_in g ctx crowded rest more)
  shapes_in g ctx crowded _ _ = no_shapes
