-- For each type the sources that want it.
use Rattle.std.specs.Prelude.{◌≡◌, ℕ, ◌<◌, Bool, true, ◌==◌, List, [], length, slice_get, slice_index_or, Some}
use Rattle.std.specs.List.{list_any}
use Rattle.terms.specs.Table.{has}
use Rattle.terms.specs.declared.parts.Arg.{Arg}
use Rattle.terms.specs.declared.parts.Arg.TheVariants.{Plain, Fun}
use Rattle.weight_bounds.specs.Rules.{Source}

-- the type of an argument, or that of a lambda's body
abbrev pub wanted_of : Arg → ℕ
wanted_of (Plain b) = b
wanted_of (Fun ps r) = r

-- whether one of the arguments is of the type
abbrev pub wants : ℕ → List Arg → Bool
wants t args = list_any (λ a. wanted_of a == t) args

-- source k is listed for the type
abbrev pub Uses : List (List ℕ) → ℕ → ℕ → Type 0
Uses users t k = has k (slice_index_or users t []) ≡ true

-- each source is listed for the types that it wants
abbrev pub AreUsers : List Source → List (List ℕ) → Type 0
AreUsers all users = (k t : ℕ) (s : Source) → slice_get all k ≡ Some s → wants t s.args ≡ true → t < length users → Uses users t k
