-- The Java text of a term, as bytes in UTF-8. It is a function on terms with a type. The text of each form
-- follows the Java Language Specification: names 6.5, calls 15.12, creation 15.9, fields 15.11, casts 15.16,
-- lambdas 15.27, `this` 15.8.3.
use Rattle.std.specs.Prelude.{ℕ, Bool, true, false, ◌&&◌, ◌||◌, not, if◌then◌else◌, ◌==◌, List, [], ◌∷◌, ◌++◌, length, map, get_or, slice_get, Option, Some, None, is_some, codes, decimal}
use Rattle.std.specs.List.{range_with_len}
use Rattle.terms.specs.Expr.{Expr, var, head, Args, plain, lam}
use Rattle.terms.specs.Typing.{type_in, joined, args_wanted}
use Rattle.terms.specs.declared.parts.Arg.{Arg}
use Rattle.terms.specs.declared.parts.Arg.TheVariants.{Plain, Fun}
use Rattle.terms.specs.declared.parts.Decl.{Decl}
use Rattle.terms.specs.declared.parts.Form.{Form}
use Rattle.terms.specs.declared.parts.Form.TheVariants.{Name, This, Call, New, Method, Field, Lambda}
use Rattle.terms.specs.declared.parts.Parts.{Parts}

-- texts joined by `, `
unfoldable pub listed : List (List ℕ) → List ℕ
listed [] = []
listed (t ∷ []) = t
listed (t ∷ u ∷ more) = t ++ codes ", " ++ listed (u ∷ more)

-- `(`, the text, `)`
abbrev pub bracketed : List ℕ → List ℕ
bracketed t = codes "(" ++ t ++ codes ")"

-- `this`
abbrev pub this_text : List ℕ
this_text = codes "this"

-- a variable: the binder's text and the variable's number in decimal
abbrev pub variable_text : Parts → ℕ → List ℕ
variable_text g n = g.binder ++ decimal n

-- the text of a type
abbrev pub type_text : Parts → ℕ → List ℕ
type_text g b = get_or g.types b []

-- whether a term's type is another one than the wanted one
abbrev pub differs : Option ℕ → ℕ → Bool
differs None b = false
differs (Some a) b = not (a == b)

-- whether a declaration is crowded, and its form
abbrev pub is_crowded : Option Decl → Bool
is_crowded None = false
is_crowded (Some d) = d.crowded

-- whether a form is `this`, and whether it is a lambda
abbrev pub is_this_form : Form → Bool
is_this_form This = true
is_this_form _ = false

abbrev pub is_lambda_form : Form → Bool
is_lambda_form (Lambda s) = true
is_lambda_form _ = false

-- whether a declaration is `this`, and whether it is a lambda
abbrev pub is_this : Option Decl → Bool
is_this None = false
is_this (Some d) = is_this_form d.form

abbrev pub is_lambda : Option Decl → Bool
is_lambda None = false
is_lambda (Some d) = is_lambda_form d.form

-- what a term's head is, where it is a declaration
abbrev pub head_decl : Parts → Expr → Option Decl
head_decl g (var n) = None
head_decl g (head d xs) = slice_get g.decls d

-- an argument as it is printed: its text without a cast, the cast's type where one is printed,
-- and whether its term is `this` or a lambda
pub record Printed : Type 0 where
  pub text : List ℕ
  pub cast : Option (List ℕ)
  pub this : Bool
  pub lambda : Bool

-- the type of the cast that is printed before a term: only at a crowded declaration, and where the types differ
abbrev pub cast_of : Parts → Bool → Option ℕ → ℕ → Option (List ℕ)
cast_of g crowded t b = if crowded && differs t b then Some (type_text g b) else None

-- an argument with its cast, `(T) ` before the term
abbrev pub with_cast : Option (List ℕ) → List ℕ → List ℕ
with_cast None t = t
with_cast (Some c) t = bracketed c ++ (codes " " ++ t)

-- the text of an argument
abbrev pub argument_text : Printed → List ℕ
argument_text p = with_cast p.cast p.text

-- whether a cast is printed
abbrev pub has_cast : Printed → Bool
has_cast p = is_some p.cast

-- a receiver: in brackets where it has a cast or is a lambda
abbrev pub receiver_text : Printed → List ℕ
receiver_text p = if has_cast p || p.lambda then bracketed (argument_text p) else p.text

-- whether a receiver is `this` without a cast, which a method, and a field that isn't hidden, leave out
abbrev pub is_bare_this : Printed → Bool
is_bare_this p = p.this && not (has_cast p)

-- the arguments of a call in their brackets
abbrev pub call_text : List Printed → List ℕ
call_text ps = bracketed (listed (map argument_text ps))

-- the binders of a lambda: the first has the number `from`
abbrev pub binders_text : Parts → ℕ → ℕ → List ℕ
binders_text g from count = listed (map (variable_text g) (range_with_len from count))

-- how many parameters the first argument has, where it is a lambda
abbrev pub parameters : List Arg → ℕ
parameters (Fun ps r ∷ more) = length ps
parameters _ = 0

-- `RECEIVER.s(ARGS)`, and `s(ARGS)` where the receiver is a bare `this`
abbrev pub method_text : List ℕ → List Printed → List ℕ
method_text s [] = []
method_text s (p ∷ ps) = (if is_bare_this p then [] else receiver_text p ++ codes ".") ++ s ++ call_text ps

-- `RECEIVER.s`, and where the receiver is a bare `this` `s`, or `this.s` if a local name hides the field
abbrev pub field_text : List ℕ → Bool → List Printed → List ℕ
field_text s hidden [] = []
field_text s hidden (p ∷ ps) = (if is_bare_this p && not hidden then [] else receiver_text p ++ codes ".") ++ s

-- `(s) (BINDERS) -> BODY`
abbrev pub lambda_text : List ℕ → List ℕ → List Printed → List ℕ
lambda_text s names [] = []
lambda_text s names (p ∷ ps) = bracketed s ++ (codes " " ++ bracketed names) ++ (codes " -> " ++ argument_text p)

-- a form over its printed arguments; `names` are the binders, where it is a lambda
abbrev pub form_text : Form → List ℕ → List Printed → List ℕ
form_text (Name s) names ps = s
form_text This names ps = this_text
form_text (Call s) names ps = s ++ call_text ps
form_text (New s) names ps = codes "new " ++ s ++ call_text ps
form_text (Method s) names ps = method_text s ps
form_text (Field s hidden) names ps = field_text s hidden ps
form_text (Lambda s) names ps = lambda_text s names ps

-- a declaration over its printed arguments, where so many variables are bound
abbrev pub decl_text : Parts → ℕ → Option Decl → List Printed → List ℕ
decl_text g bound None ps = []
decl_text g bound (Some d) ps = form_text d.form (binders_text g bound (parameters d.args)) ps

unfoldable mutual
  -- the text of a term under these rows
  pub text_in : Parts → List (List ℕ) → Expr → List ℕ
  text_in g ctx (var n) = variable_text g n
  text_in g ctx (head d xs) = decl_text g (length (joined ctx)) (slice_get g.decls d) (printed g ctx (is_crowded (slice_get g.decls d)) xs (args_wanted (slice_get g.decls d)))

  -- the arguments, each as it is printed at its place
  pub printed : Parts → List (List ℕ) → Bool → Args → List Arg → List Printed
  printed g ctx crowded (plain e rest) (Plain b ∷ more) =
      record { text = text_in g ctx e; cast = cast_of g crowded (type_in g ctx e) b; this = is_this (head_decl g e); lambda = is_lambda (head_decl g e) } ∷ printed g ctx crowded rest more
  printed g ctx crowded (lam e rest) (Fun ps r ∷ more) =
      record { text = text_in g (ctx ++ ps ∷ []) e; cast = cast_of g crowded (type_in g (ctx ++ ps ∷ []) e) r; this = false; lambda = false } ∷ printed g ctx crowded rest more
  printed g ctx crowded _ _ = []

-- the text of a term at the goal
abbrev pub text_of : Parts → Expr → List ℕ
text_of g e = text_in g [] e
