-- What stands in the tables of type variables by their names.
use Rattle.std.specs.Prelude.{◌≡◌, ℕ, List, slice_get, Option, Some, None}
use Rattle.std.specs.Option.{option_map}
use Rattle.java_units.specs.declared.types.TypeText.{TypeText}
use Rattle.java_units.specs.declared.types.TypeVar.{TypeVar}
use Rattle.java_units.specs.declared.types.SourceMethod.{SourceMethod}
use Rattle.java_units.specs.declared.types.SourceClass.{SourceClass}
use Rattle.known_classes.specs.NameTables.{Table}
use Rattle.class_summary.specs.Variables.{bound_of}

-- A class as its text declares it.
abbrev pub DeclaredClass : Type 0
DeclaredClass = SourceClass

abbrev pub variables_of : SourceMethod → List TypeVar
variables_of m = m.vars

-- The bound of the variable at a place.
abbrev pub bound_at : List TypeVar → Option ℕ → Option (Option TypeText)
bound_at vars None = None
bound_at vars (Some i) = option_map (λ v. v.bound) (slice_get vars i)

-- The table gives the place of a variable with the bound that the first one of that name has.
abbrev pub GivesBounds : List TypeVar → Table → Type 0
GivesBounds vars table = (name : List ℕ) → bound_at vars (table name) ≡ bound_of name vars
