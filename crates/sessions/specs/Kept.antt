-- Where what is kept stands.
use Rattle.std.specs.Prelude.{◌≡◌, ℕ, ◌==◌, List, position, Some}
use Rattle.answers.specs.declared.types.Cursor.{Cursor}

-- The first cursor of the number stands there.
abbrev pub StandsAt : List Cursor → ℕ → ℕ → Type 0
StandsAt cs number place = position (λ c. c.number == number) cs ≡ Some place
