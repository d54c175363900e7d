-- The type variables of a source text, and types through their bounds (JLS 4.4, 4.6, 8.1.2, 8.4.4).
use Rattle.std.specs.Prelude.{⊤, ℕ, zero, suc, ◌+◌, ◌<◌, if◌then◌else◌, List, [], ◌∷◌, length, map, slice_get, bytes_eq, Option, Some, None}
use Rattle.java_units.specs.declared.types.TypeText.{TypeText}
use Rattle.java_units.specs.declared.types.TypeVar.{TypeVar}
use Rattle.java_units.specs.declared.types.SourceMethod.{SourceMethod}
use Rattle.java_units.specs.declared.types.SourceClass.{SourceClass}
use Rattle.java_units.specs.Dimensions.{total}
use Rattle.class_summary.specs.Sources.{around}

-- The variables that a class or a method declares, and the number of that class.
pub record Scope : Type 0 where
  pub class : ℕ
  pub vars : List TypeVar

-- Where a type ends: its dimensions, the class at which its last name stands, and the parts of that name, or none
-- for `java/lang/Object`.
pub record End : Type 0 where
  pub dims : ℕ
  pub class : ℕ
  pub parts : Option (List (List ℕ))

-- The bound of the first of these variables that has the name.
unfoldable pub bound_of : List ℕ → List TypeVar → Option (Option TypeText)
bound_of name [] = None
bound_of name (v ∷ vs) = if bytes_eq name v.name then Some v.bound else bound_of name vs

-- A variable that was found: its bound, the class at which it is declared, and the scopes from its own outwards.
pub record Found : Type 0 where
  pub bound : Option TypeText
  pub class : ℕ
  pub scopes : List Scope

abbrev pub found_here : Scope → List Scope → Option (Option TypeText) → Option Found → Option Found
found_here s ss None more = more
found_here s ss (Some bound) more = Some (record { bound = bound; class = s.class; scopes = s ∷ ss })

-- The variable with a name, in the first scope that declares one.
unfoldable pub variable_in : List ℕ → List Scope → Option Found
variable_in name [] = None
variable_in name (s ∷ ss) = found_here s ss (bound_of name s.vars) (variable_in name ss)

-- The variable that a type is, where it is a single name.
unfoldable pub variable_of : List (List ℕ) → List Scope → Option Found
variable_of [] ss = None
variable_of (p ∷ []) ss = variable_in p ss
variable_of (p ∷ q ∷ ps) ss = None

abbrev pub end_at : ℕ → ℕ → Option (List (List ℕ)) → End
end_at dims class parts = record { dims = dims; class = class; parts = parts }

-- An end with the dimensions of a bound.
abbrev pub more_dims : ℕ → Option End → Option End
more_dims dims None = None
more_dims dims (Some end) = Some (end_at (dims + end.dims) end.class end.parts)

abbrev pub by_bound : ℕ → Option TypeText → (TypeText → Option End) → Option End
by_bound class None more = Some (end_at 0 class None)
by_bound class (Some bound) more = more_dims bound.dims (more bound)

abbrev pub by_variable : ℕ → List (List ℕ) → Option Found → (Found → TypeText → Option End) → Option End
by_variable class parts None more = Some (end_at 0 class (Some parts))
by_variable class parts (Some f) more = by_bound f.class f.bound (more f)

-- Where a name ends after less than n bounds, with the dimensions of these: at a name that is no variable, or at
-- `java/lang/Object`, where a variable has no bound. A bound is a type where its variable is declared.
unfoldable pub through : ℕ → ℕ → List (List ℕ) → List Scope → Option End
through zero class parts ss = None
through (suc n) class parts ss =
    by_variable class parts (variable_of parts ss) (λ f b. through n f.class b.parts f.scopes)

-- How many variables these scopes declare.
abbrev pub variables : List Scope → ℕ
variables ss = total (λ s. length s.vars) ss

abbrev pub end_with : ℕ → ℕ → Option End → End
end_with dims class None = end_at dims class None
end_with dims class (Some end) = end_at (dims + end.dims) end.class end.parts

-- Where a type ends, through the bounds of its variables. A name that goes through more bounds than there are
-- variables comes back to one of them: then it is `java/lang/Object`, with the type's own dimensions alone.
abbrev pub end_of : List Scope → ℕ → TypeText → End
end_of ss class type = end_with type.dims class (through (suc (variables ss)) class type.parts ss)

abbrev pub class_vars : Option SourceClass → List TypeVar
class_vars None = []
class_vars (Some c) = c.vars

abbrev pub method_vars : Option SourceMethod → List TypeVar
method_vars None = []
method_vars (Some m) = m.vars

abbrev pub method_in : ℕ → Option SourceClass → Option SourceMethod
method_in m None = None
method_in m (Some c) = slice_get c.methods m

-- The variables that a class declares.
abbrev pub class_scope : List SourceClass → ℕ → Scope
class_scope cs i = record { class = i; vars = class_vars (slice_get cs i) }

-- The variables that a method declares.
abbrev pub method_scope : List SourceClass → ℕ → ℕ → Scope
method_scope cs i m = record { class = i; vars = method_vars (method_in m (slice_get cs i)) }

-- The scopes at a class, or at a method of it: the method's, then those of the class and the classes around
-- it.
abbrev pub scopes_at : List SourceClass → ℕ → Option ℕ → List Scope
scopes_at cs i None = map (class_scope cs) (around cs i)
scopes_at cs i (Some m) = method_scope cs i m ∷ map (class_scope cs) (around cs i)

abbrev pub methods_of : Option SourceClass → List SourceMethod
methods_of None = []
methods_of (Some c) = c.methods

-- No method, or the number of one in that class.
abbrev pub IsMethodOf : List SourceClass → ℕ → Option ℕ → Type 0
IsMethodOf cs i None = ⊤
IsMethodOf cs i (Some m) = m < length (methods_of (slice_get cs i))
