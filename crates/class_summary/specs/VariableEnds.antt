-- Where type variables end through their bounds, told once for each variable of a declaration.
use Rattle.std.specs.Prelude.{◌≡◌, ℕ, ◌+◌, ◌-◌, ◌<◌, ◌≤◌, ◌⊎◌, List, drop, slice_get, Option, Some, None}
use Rattle.java_units.specs.declared.types.TypeText.{TypeText}
use Rattle.java_units.specs.declared.types.SourceClass.{SourceClass}
use Rattle.class_summary.specs.Variables.{Scope, End, Found, end_at, by_bound, through, variable_of, scopes_at}
use Rattle.class_summary.specs.VariableTables.{bound_at}

-- Where a variable ends: after this many bounds, with their dimensions where these can be counted, at this class, and
-- at these parts, or at `java/lang/Object`.
pub record Reach : Type 0 where
  pub bounds : ℕ
  pub dims : Option ℕ
  pub class : ℕ
  pub parts : Option (List (List ℕ))

-- Where a variable with this bound ends, after at most n more bounds.
abbrev pub from_bound : ℕ → ℕ → Option TypeText → List Scope → Option End
from_bound n class bound ss = by_bound class bound (λ b. through n class b.parts ss)

-- What is found after at most n bounds is as told.
pub record EndsSo (n : ℕ) (r : Reach) (end : Option End) : Type 0 where
  pub before : n < r.bounds → end ≡ None
  pub behind : (d : ℕ) → r.bounds ≤ n → r.dims ≡ Some d → end ≡ Some (end_at d r.class r.parts)

-- Where a variable ends is told, or that it never does.
abbrev pub IsEndOf : Option Reach → ℕ → Option TypeText → List Scope → Type 0
IsEndOf None class bound ss = (n : ℕ) → from_bound n class bound ss ≡ None
IsEndOf (Some r) class bound ss = (n : ℕ) → EndsSo n r (from_bound n class bound ss)

-- A variable stands at this place of the scope at this level.
pub record StandsAt (ss : List Scope) (level place class : ℕ) (bound : Option TypeText) : Type 0 where
  pub scope : Scope
  pub there : slice_get ss level ≡ Some scope
  pub class_is : class ≡ scope.class
  pub bound_is : bound_at scope.vars (Some place) ≡ Some bound

-- Where they end is told so far rightly of the variables of the first scope.
pub record AreTold (ss : List Scope) (ends : List (Option Reach)) : Type 0 where
  pub each : (class place : ℕ) (bound : Option TypeText) (r : Reach) → StandsAt ss 0 place class bound → slice_get ends place ≡ Some (Some r) → IsEndOf (Some r) class bound ss

-- It is told of each variable of the first scope, by its place.
pub record AreEnds (ss : List Scope) (ends : List (Option Reach)) : Type 0 where
  pub each : (class place : ℕ) (bound : Option TypeText) (r : Option Reach) → StandsAt ss 0 place class bound → slice_get ends place ≡ Some r → IsEndOf r class bound ss

-- It is told of each variable of a further scope, by the class of that scope.
pub record AreToldOutside (ss : List Scope) (tables : List (List (Option Reach))) : Type 0 where
  pub each : (level : ℕ) (s : Scope) (ends : List (Option Reach)) → 0 < level → slice_get ss level ≡ Some s → slice_get tables s.class ≡ Some ends → AreEnds (drop level ss) ends

-- Nothing is told yet of a variable, which is one of the first scope.
pub record IsUntold (ss : List Scope) (ends : List (Option Reach)) (f : Found) : Type 0 where
  pub place : ℕ
  pub stands : StandsAt ss 0 place f.class f.bound
  pub untold : slice_get ends place ≡ Some None
  pub scopes : f.scopes ≡ ss

-- What is told of a variable that was found.
abbrev pub IsNext : List Scope → List (Option Reach) → Found → Option Reach → Type 0
IsNext ss ends f None = IsUntold ss ends f ⊎ IsEndOf None f.class f.bound f.scopes
IsNext ss ends f (Some r) = IsEndOf (Some r) f.class f.bound f.scopes

-- The variable that a type is, and what is told of it.
pub record NextIs (ss : List Scope) (ends : List (Option Reach)) (parts : List (List ℕ)) (told : Option Reach) : Type 0 where
  pub next : Found
  pub found : variable_of parts ss ≡ Some next
  pub is : IsNext ss ends next told

-- A bound is a variable of which nothing is told, or one that never ends.
pub record LeadsOn (ss : List Scope) (ends : List (Option Reach)) (bound : Option TypeText) : Type 0 where
  pub type : TypeText
  pub is : bound ≡ Some type
  pub next : NextIs ss ends type.parts None

-- Nothing more can be told of the variables of the first scope below this place.
pub record IsClosed (ss : List Scope) (ends : List (Option Reach)) (below : ℕ) : Type 0 where
  pub each : (class place : ℕ) (bound : Option TypeText) → place < below → StandsAt ss 0 place class bound → slice_get ends place ≡ Some None → LeadsOn ss ends bound

-- The tables of the classes of a text tell where their variables end.
pub record AreClassEnds (cs : List SourceClass) (tables : List (List (Option Reach))) : Type 0 where
  pub each : (i : ℕ) (ends : List (Option Reach)) → slice_get tables i ≡ Some ends → AreEnds (scopes_at cs i None) ends

-- Those of their methods do so too.
pub record AreMethodEnds (cs : List SourceClass) (tables : List (List (List (Option Reach)))) : Type 0 where
  pub each : (i m : ℕ) (methods : List (List (Option Reach))) (ends : List (Option Reach)) → slice_get tables i ≡ Some methods → slice_get methods m ≡ Some ends → AreEnds (scopes_at cs i (Some m)) ends

-- One bound further than this.
pub record IsFurther (next : Reach) (dims : ℕ) (r : Reach) : Type 0 where
  pub bounds : r.bounds ≡ next.bounds + 1
  pub sum : (d : ℕ) → r.dims ≡ Some d → (dims ≤ d) × (next.dims ≡ Some (d - dims))
  pub class : r.class ≡ next.class
  pub parts : r.parts ≡ next.parts
