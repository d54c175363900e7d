-- What stands in the tables of a unit's names.
use Rattle.std.specs.Prelude.{◌≡◌, ℕ, zero, suc, List, [], ◌∷◌, slice_get, Some, None}
use Rattle.java_units.specs.declared.types.SourceClass.{SourceClass}
use Rattle.java_units.specs.declared.types.Unit as unit
use Rattle.known_classes.specs.NameTables.{Table}
use Rattle.class_summary.specs.Names.{member_named, own_by_canonical}

-- A text's package, imports and classes.
abbrev pub SourceUnit : Type 0
SourceUnit = unit.Unit

-- The values of a function at n numbers from k on.
abbrev pub numbered : {A : Type 0} → (ℕ → A) → ℕ → ℕ → List A
numbered f k zero = []
numbered f k (suc n) = f k ∷ numbered f (suc k) n

-- The table gives the first class of the text with a canonical name.
abbrev pub GivesCanonical : unit.Unit → Table → Type 0
GivesCanonical u table = (name : List ℕ) → table name ≡ own_by_canonical u name

-- The table gives the top-level classes by their names.
abbrev pub GivesTop : List SourceClass → Table → Type 0
GivesTop cs table = (name : List ℕ) → table name ≡ member_named None name cs

-- The table of each class gives its members by their names.
abbrev pub GiveMembers : List SourceClass → List Table → Type 0
GiveMembers cs tables = (i : ℕ) (table : Table) (name : List ℕ) → slice_get tables i ≡ Some table → table name ≡ member_named (Some i) name cs
