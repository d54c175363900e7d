-- What sharing under a fingerprint does.
use Rattle.std.specs.Prelude.{ℕ, ◌==◌, ◌-◌, suc, Bool, [], ◌∷◌, ◌++◌, length, drop, position, is_some}
use Rattle.shared_shelf.specs.declared.kept.Kept.{Kept}

-- Whether the fingerprint is kept.
abbrev pub has : Kept → ℕ → Bool
has shelf print = is_some (position (λ p. p == print) shelf.prints)

-- The fingerprint is added at the end, and the oldest one is dropped where the capacity would be passed.
abbrev pub added : Kept → ℕ → Kept
added shelf print = record shelf { prints = drop (suc (length shelf.prints) - shelf.capacity) (shelf.prints ++ print ∷ []) }
