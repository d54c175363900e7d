-- Paths of steps.
use Rattle.std.specs.Prelude.{List, [], ◌∷◌}

-- One step or more go from a to b, through these in order.
unfoldable pub IsPathBy : {A : Type 0} → (A → A → Type 0) → A → List A → A → Type 0
IsPathBy step a [] b = step a b
IsPathBy step a (c ∷ via) b = step a c × IsPathBy step c via b

-- One step or more lead from a to b.
abbrev pub Leads : {A : Type 0} → (A → A → Type 0) → A → A → Type 0
Leads {A} step a b = (via : List A) × IsPathBy step a via b
