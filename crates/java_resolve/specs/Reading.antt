-- Which terms an expression is the text of, in a context, and what tells of them.
use Rattle.std.specs.Prelude.{◌≡◌, ℕ, suc, ◌≤◌, Bool, true, false, List, [], ◌∷◌, Option, Some, None, ◌⊎◌, ◌++◌, ◌==◌, not, codes, chars, slice_get}
use Rattle.std.specs.List.{list_all}
use Rattle.terms.specs.Expr.{Expr, var, head, Args}
use Rattle.terms.specs.Typing.{type_in, fits, joined, some_below}
use Rattle.terms.specs.Text.{variable_text, text_of}
use Rattle.terms.specs.Apart.{Declares}
use Rattle.terms.specs.Faults.{IsValid}
use Rattle.terms.specs.declared.parts.Arg.{Arg}
use Rattle.terms.specs.declared.parts.Decl.{Decl}
use Rattle.terms.specs.declared.parts.Parts.{Parts}
use Rattle.java_shapes.specs.Shape.{Shape, named, Before, nothing, Shapes, no_shapes, shapes}
use Rattle.java_shapes.specs.ShapeOf.{before_of, path_of, shape_in, shapes_in}
use Rattle.java_shapes.specs.Readable.{IsReadable, HasShortRows}
use Rattle.java_resolve.specs.declared.heads.Kind.{Kind}
use Rattle.java_resolve.specs.declared.heads.Kind.TheVariants as kind
use Rattle.java_resolve.specs.Found.{IsFound, one, Row, Spot, pick, accepts, headed_in}
use Rattle.java_resolve.specs.declared.index.Index.{Index}
use Rattle.java_resolve.specs.Index.{bucket, IsIndex}

-- a type that passes the test
abbrev pub some_kind : (ℕ → Bool) → Option ℕ → Bool
some_kind p None = false
some_kind p (Some a) = p a

-- a term of a type that passes the test, with this shape
pub record Typed (g : Parts) (ctx : List (List ℕ)) (s : Shape) (p : ℕ → Bool) (e : Expr) : Type 0 where
  pub kind : some_kind p (type_in g ctx e) ≡ true
  pub shape : shape_in g ctx e ≡ s

-- the row tells which terms have the shape, whatever type is wanted
abbrev pub IsRow : Parts → List (List ℕ) → Shape → Row → Type 0
IsRow g ctx s row = (p : ℕ → Bool) → IsFound (Typed g ctx s p) (pick p row)

-- the places tell of arguments
abbrev pub AreSpots : Parts → List (List ℕ) → Shapes → List Spot → Type 0
AreSpots g ctx no_shapes [] = Unit {0}
AreSpots g ctx no_shapes (p ∷ ps) = ⊥
AreSpots g ctx (shapes c e rest) [] = ⊥
AreSpots g ctx (shapes c e rest) (p ∷ ps) = (p.cast ≡ c) × IsRow g ctx e p.row × AreSpots g ctx rest ps

-- arguments that fit, with these shapes
pub record ReadAll (g : Parts) (ctx : List (List ℕ)) (crowded : Bool) (ss : Shapes) (bs : List Arg) (xs : Args) : Type 0 where
  pub kinds : fits g ctx xs bs ≡ true
  pub shapes : shapes_in g ctx crowded xs bs ≡ ss

-- a number of the list
abbrev pub IsAmong : List ℕ → ℕ → Type 0
IsAmong [] n = ⊥
IsAmong (m ∷ ms) n = (m ≡ n) ⊎ IsAmong ms n

-- numbers that rise, from i on
abbrev pub AreRising : ℕ → List ℕ → Type 0
AreRising i [] = Unit {0}
AreRising i (n ∷ ns) = (i ≤ n) × AreRising (suc n) ns

-- a term of a type that passes the test, whose head is one of these declarations and of the kind, and whose arguments
-- have these shapes
pub record Headed (g : Parts) (ctx : List (List ℕ)) (k : Kind) (ns : List ℕ) (ss : Shapes) (p : ℕ → Bool) (e : Expr) : Type 0 where
  pub number : ℕ
  pub args : Args
  pub is : e ≡ head number args
  pub among : IsAmong ns number
  pub decl : Decl
  pub declared : Declares g number decl
  pub accepted : accepts k decl.form ≡ true
  pub kind : p decl.result ≡ true
  pub read : ReadAll g ctx decl.crowded ss decl.args args

-- texts can be told in the environment
pub record IsTellable (g : Parts) : Type 0 where
  pub valid : IsValid g
  pub readable : IsReadable g
  pub short : HasShortRows g

-- where a word stands in a name: first behind nothing, where `this` is left out; behind `this.`; behind another receiver
pub data Site : Type 0 where
  first : Site
  after_this : Site
  after : Site

-- `this` as an expression
abbrev pub this_shape : Shape
this_shape = named nothing (codes "this")

-- the name t behind b has the last word w, behind the receiver e with its cast
abbrev pub IsSite : Site → Before → List ℕ → Option (List ℕ) → Shape → List ℕ → Type 0
IsSite first b t c e w = (b ≡ nothing) × (t ≡ w) × (c ≡ None) × (e ≡ this_shape)
IsSite after_this b t c e w = (b ≡ nothing) × (t ≡ codes "this" ++ 46 ∷ w) × (c ≡ None) × (e ≡ this_shape)
IsSite after b t c e w = (before_of c e ≡ b) × (path_of c e w ≡ t) × (c ≡ None → e ≡ this_shape → ⊥)

-- which fields and methods may stand there
abbrev pub fields_of : Site → Kind
fields_of first = kind.ShownField
fields_of after_this = kind.HiddenField
fields_of after = kind.Field

abbrev pub methods_of : Site → Kind
methods_of first = kind.Method
methods_of after_this = kind.Never
methods_of after = kind.Method

-- a variable of a type that passes the test, with this text
pub record IsVariable (g : Parts) (ctx : List (List ℕ)) (t : List ℕ) (p : ℕ → Bool) (e : Expr) : Type 0 where
  pub number : ℕ
  pub is : e ≡ var number
  pub kind : some_kind p (slice_get (joined ctx) number) ≡ true
  pub text : chars (variable_text g number) ≡ t

-- the row of the variable n, where its type is this one
abbrev pub variable_in : ℕ → Option ℕ → Row
variable_in n None = []
variable_in n (Some a) = (a, one (var n)) ∷ []

-- the row tells which variable has the text
abbrev pub IsVariableRow : Parts → List (List ℕ) → List ℕ → Row → Type 0
IsVariableRow g ctx t row = (p : ℕ → Bool) → IsFound (IsVariable g ctx t p) (pick p row)

-- no dot in it
abbrev pub IsDotless : List ℕ → Type 0
IsDotless w = list_all (λ c. not (c == 46)) w ≡ true

-- the name t behind b, whose last word is w so far: what is found for the receiver of that word, and which fields and
-- methods it may be
pub record Linked (g : Parts) (ctx : List (List ℕ)) (b : Before) (t w : List ℕ) (spot : Spot) (fields methods : Kind) : Type 0 where
  pub site : Site
  pub receiver : Shape
  pub row : IsRow g ctx receiver spot.row
  pub is : IsSite site b t spot.cast receiver w
  pub dotless : IsDotless w
  pub fields_are : fields ≡ fields_of site
  pub methods_are : methods ≡ methods_of site

-- an environment whose texts can be told, with its index
pub record IsSet (g : Parts) (x : Index) : Type 0 where
  pub tellable : IsTellable g
  pub index : IsIndex g x

-- the term is well typed at the goal and has the text
pub record IsReading (g : Parts) (text : List ℕ) (e : Expr) : Type 0 where
  pub typed : some_below g (type_in g [] e) g.goal ≡ true
  pub text_is : text_of g e ≡ text

-- the row of a name behind nothing, without fields
pub record IsAloneRow (g : Parts) (x : Index) (ctx : List (List ℕ)) (text : List ℕ) (row : Row) : Type 0 where
  pub vars : Row
  pub right : IsVariableRow g ctx (chars text) vars
  pub is : row ≡ headed_in g kind.Alone (bucket x text) [] ++ vars
