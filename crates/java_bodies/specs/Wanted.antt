-- The type that is asked for at a hole.
use Rattle.std.specs.Prelude.{ℕ, ◌/◌, List, [], ◌∷◌, drop, if◌then◌else◌, bytes_eq, Option, Some, None}
use Rattle.std.specs.List.{list_any}
use Rattle.java_units.specs.Signs.{Sign}
use Rattle.java_units.specs.Forms.{dims_len}
use Rattle.java_units.specs.Values.{first_text, type_text}
use Rattle.java_units.specs.declared.types.TypeText.{TypeText}
use Rattle.java_units.specs.declared.types.SourceField.{SourceField}
use Rattle.java_units.specs.declared.types.SourceMethod.{SourceMethod}
use Rattle.java_units.specs.declared.types.SourceClass.{SourceClass}
use Rattle.java_bodies.specs.Statements.{typed, named, asked_by}
use Rattle.java_bodies.specs.Variables.{usable}
use Rattle.java_bodies.specs.declared.names.Names.{Names}
use Rattle.java_bodies.specs.declared.site.Local.{Local}
use Rattle.java_bodies.specs.declared.statements.Asking.{Asking}
use Rattle.java_bodies.specs.declared.statements.Asking.TheVariants.{Declaration, Return, Variable, Field, Nothing}

-- The type of the first field of this name.
unfoldable pub field_kind : List ℕ → List SourceField → Option TypeText
field_kind name [] = None
field_kind name (f ∷ fs) = if bytes_eq f.name name then Some f.kind else field_kind name fs

-- The type of the variable of this name, or else of the field.
unfoldable pub local_kind : List ℕ → List Local → List SourceField → Option TypeText
local_kind name [] fields = field_kind name fields
local_kind name (l ∷ ls) fields = if bytes_eq l.name name then Some l.kind else local_kind name ls fields

-- The same, where the name isn't hidden.
unfoldable pub variable_kind : List ℕ → Names → List SourceField → Option TypeText
variable_kind name names fields =
    if list_any (λ h. bytes_eq h name) names.hidden then None else local_kind name names.locals fields

-- The type of the declaration, with the dimensions behind its name, unless it is `var`.
unfoldable pub declared_kind : List Sign → Option TypeText
declared_kind ss = usable (type_text (dims_len (drop 1 (named ss)) / 2) (typed ss))

abbrev pub wanted_by : Asking → List Sign → SourceClass → SourceMethod → Names → Option TypeText
wanted_by Declaration ss c m names = declared_kind ss
wanted_by Return ss c m names = m.result
wanted_by Variable ss c m names = variable_kind (first_text ss) names c.fields
wanted_by Field ss c m names = field_kind (first_text (drop 2 ss)) c.fields
wanted_by Nothing ss c m names = None

-- The type that the hole's own statement asks for, in a class and a method, with these names in scope.
unfoldable pub wanted : List Sign → SourceClass → SourceMethod → Names → Option TypeText
wanted ss c m names = wanted_by (asked_by ss) ss c m names
