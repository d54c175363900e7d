-- Variables, and what declares them.
use Rattle.std.specs.Prelude.{ℕ, ◌-◌, Bool, false, ◌&&◌, not, ◌==◌, List, [], ◌∷◌, take, drop, length, map, if◌then◌else◌, codes, bytes_eq, Option, Some, None}
use Rattle.java_units.specs.Signs.{Sign}
use Rattle.java_units.specs.Forms.{begins, begins_name, type_len, span, more}
use Rattle.java_units.specs.Values.{first_text, type_text, fields_of}
use Rattle.java_units.specs.declared.types.TypeText.{TypeText}
use Rattle.java_units.specs.declared.types.Param.{Param}
use Rattle.java_units.specs.declared.types.SourceField.{SourceField}
use Rattle.java_bodies.specs.Bodies.{BodySigns}
use Rattle.java_bodies.specs.Kept.{keeps}
use Rattle.java_bodies.specs.Openers.{gathered}
use Rattle.java_bodies.specs.Blocks.{follows}
use Rattle.java_bodies.specs.Statements.{statement, may_begin, typed, named, is_just}
use Rattle.java_bodies.specs.declared.mark.Brackets.TheVariants.{Blocks, Rounds}
use Rattle.java_bodies.specs.declared.variables.Variable.{Variable}

-- Whether a type of these parts is `var` (JLS 14.4.1), of any dimensions.
abbrev pub is_var : List (List ℕ) → Bool
is_var [] = false
is_var (p ∷ []) = bytes_eq (codes "var") p
is_var (p ∷ q ∷ ps) = false

-- The type that a variable has for its users: none where it is `var`.
unfoldable pub usable : TypeText → Option TypeText
usable t = if is_var t.parts then None else Some t

unfoldable pub of_param : Param → Variable
of_param p = record { name = p.name; kind = usable p.kind }

unfoldable pub of_field : SourceField → Variable
of_field f = record { name = f.name; kind = usable f.kind }

-- The variables that a statement declares (JLS 14.4): its names are read as those of a field.
unfoldable pub declared : List Sign → List Variable
declared ss = if type_len (typed ss) == 0 then [] else map of_field (fields_of 0 (typed ss))

-- `TYPE N :` in the header of a `for` (JLS 14.14.2).
unfoldable pub is_each : List Sign → Bool
is_each ss = (not (type_len (typed ss) == 0) && begins_name (named ss)) && begins (codes ":") (drop 1 (named ss))

-- A variable of the type and the name there.
unfoldable pub each : List Sign → Variable
each ss = record { name = first_text (named ss); kind = usable (type_text 0 (typed ss)) }

-- What the header of a `for` declares, from behind its `(` up to and with its `)`: by `TYPE N :`, or by its
-- first statement.
unfoldable pub for_header : List Sign → List Variable
for_header ss = if is_each ss then each ss ∷ [] else declared (statement ss)

-- `| TYPE`
unfoldable pub alternative_len : List Sign → ℕ
alternative_len ss = if begins (codes "|") ss then more (type_len (drop 1 ss)) else 0

-- What follows the types of a `catch` header (JLS 14.20).
unfoldable pub caught : List Sign → List Sign
caught ss = drop (span alternative_len (named ss)) (named ss)

unfoldable pub is_catch : List Sign → Bool
is_catch ss = (not (type_len (typed ss) == 0) && begins_name (caught ss)) && is_just (codes ")") (drop 1 (caught ss))

-- The name there, hidden where there are several types.
unfoldable pub catching : List Sign → Variable
catching ss = record {
  name = first_text (caught ss);
  kind = if begins (codes "|") (named ss) then None else usable (type_text 0 (typed ss));
}

unfoldable pub catch_header : List Sign → List Variable
catch_header ss = if is_catch ss then catching ss ∷ [] else []

-- Whether a statement begins at a place of what stands before a hole or in a header, and goes on as `whole`:
-- not within brackets that a `)` closes before the next brace.
unfoldable pub begins_at : List Sign → List Sign → ℕ → Bool
begins_at before whole k = may_begin before k && keeps Rounds (drop k whole)

-- The header without its `)`.
unfoldable pub inside : List Sign → List Sign
inside ss = take (length ss - 1) ss

-- The signs of a header, seen from its end.
abbrev pub header_signs : List Sign → BodySigns
header_signs ss = record { before = inside ss; whole = inside ss }

-- What the statement at a place of a `try` header declares: nothing where the place isn't at its own level.
unfoldable pub resource_at : List Sign → ℕ → List Variable
resource_at ss k = if keeps Blocks (drop k (inside ss)) && begins_at (inside ss) (inside ss) k then declared (statement (drop k ss)) else []

-- What the header of a `try` declares (JLS 14.20.3): by each of its statements.
unfoldable pub try_header : List Sign → List Variable
try_header ss = gathered (resource_at ss) (length (inside ss))

-- What the header behind the `(` at this place declares, by the word before it.
unfoldable pub header_variables : List Sign → ℕ → List Sign → List Variable
header_variables ss opening header =
    if follows (codes "for" ∷ []) ss opening then for_header header
    else if follows (codes "catch" ∷ []) ss opening then catch_header header
    else if follows (codes "try" ∷ []) ss opening then try_header header
    else []
