-- The variables in the scope of a hole (JLS 6.3, 14.4).
use Rattle.std.specs.Prelude.{ℕ, zero, suc, ◌-◌, Bool, not, List, [], ◌∷◌, ◌++◌, take, drop, length, map, if◌then◌else◌, codes, bytes_eq, Option, Some, None}
use Rattle.std.specs.List.{flat_map, list_any}
use Rattle.java_units.specs.Signs.{Sign}
use Rattle.java_units.specs.Forms.{begins}
use Rattle.java_units.specs.Values.{first_text}
use Rattle.java_units.specs.declared.types.Param.{Param}
use Rattle.java_units.specs.declared.types.TypeText.{TypeText}
use Rattle.java_bodies.specs.Bodies.{BodySigns}
use Rattle.java_bodies.specs.Kept.{keeps}
use Rattle.java_bodies.specs.Openers.{opener, gathered}
use Rattle.java_bodies.specs.Statements.{statement, named, is_declaration, own_statement}
use Rattle.java_bodies.specs.Variables.{of_param, declared, begins_at, header_variables}
use Rattle.java_bodies.specs.declared.mark.Brackets.TheVariants.{Blocks}
use Rattle.java_bodies.specs.declared.variables.Variable.{Variable}
use Rattle.java_bodies.specs.declared.names.Names.{Names}
use Rattle.java_bodies.specs.declared.site.Local.{Local}

-- What the header declares whose `)` stands at this place.
abbrev pub header_at : List Sign → ℕ → Option ℕ → List Variable
header_at ss k None = []
header_at ss k (Some opening) = header_variables ss opening (take (k - opening) (drop 1 (drop opening ss)))

-- What the header right before a place declares.
unfoldable pub header_before : List Sign → ℕ → List Variable
header_before ss zero = []
header_before ss (suc k) = if begins (codes ")") (drop k ss) then header_at ss k (opener ss k) else []

-- What the header of a block declares, from behind its brace.
unfoldable pub entered : List Sign → ℕ → List Variable
entered ss zero = []
entered ss (suc k) = if begins (codes "{") (drop k ss) then header_before ss k else []

-- What the statement at a place declares, where one begins there.
unfoldable pub stated : BodySigns → ℕ → List Variable
stated b k = if begins_at b.before b.whole k then declared (statement (drop k b.before)) else []

-- What a place adds to the scope of the hole: nothing where a block that is open there is closed before the
-- hole; else what the header of the block declares that begins there, and the statement.
unfoldable pub added_at : BodySigns → ℕ → List Variable
added_at b k = if keeps Blocks (drop k b.before) then entered b.before k ++ stated b k else []

-- The variable that the hole's own statement declares: it is hidden.
unfoldable pub own_variable : List Sign → List Variable
own_variable ss = if is_declaration ss then record { name = first_text (named ss); kind = None } ∷ [] else []

-- All variables in scope, in the order of their places: parameters, those of the body, and that one.
unfoldable pub variables_of : List Param → BodySigns → List Variable
variables_of ps b = (map of_param ps ++ gathered (added_at b) (length b.before)) ++ own_variable (own_statement b.before)

-- Whether a variable has the name.
unfoldable pub is_named : List ℕ → List Variable → Bool
is_named name vs = list_any (λ v. bytes_eq v.name name) vs

-- Those that count: of several of one name the last one.
unfoldable pub last_ones : List Variable → List Variable
last_ones [] = []
last_ones (v ∷ vs) = if is_named v.name vs then last_ones vs else v ∷ last_ones vs

-- Of each variable, whether it counts.
unfoldable pub last_marks : List Variable → List Bool
last_marks [] = []
last_marks (v ∷ vs) = not (is_named v.name vs) ∷ last_marks vs

abbrev pub usable_by : List ℕ → Option TypeText → List Local
usable_by name None = []
usable_by name (Some kind) = record { name = name; kind = kind } ∷ []

abbrev pub hidden_by : List ℕ → Option TypeText → List (List ℕ)
hidden_by name None = name ∷ []
hidden_by name (Some kind) = []

abbrev pub local_of : Variable → List Local
local_of v = usable_by v.name v.kind

abbrev pub hidden_of : Variable → List (List ℕ)
hidden_of v = hidden_by v.name v.kind

-- The variables that can be used, each name once.
unfoldable pub locals_of : List Variable → List Local
locals_of vs = flat_map local_of (last_ones vs)

-- The names in scope that can't be used, each once.
unfoldable pub hiddens_of : List Variable → List (List ℕ)
hiddens_of vs = flat_map hidden_of (last_ones vs)

abbrev pub names_of : List Variable → Names
names_of vs = record { locals = locals_of vs; hidden = hiddens_of vs }
