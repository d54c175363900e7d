-- The words and the number of ends that don't fit.
use Rattle.std.specs.Prelude.{◌≡◌, ◌≢◌, ◌⊎◌, ℕ, List}
use Rattle.command_line.specs.Words.{Asked, AskFor, IsFirstWrong, ends_for}
use Rattle.statuses.specs.declared.status.Status.{Status}

-- The words can't stand there: the number of the first of them, or of the one that is missing. Where they can, the number of ends
-- is another than what they ask for needs.
abbrev pub IsUsage : List (List ℕ) → ℕ → Status → Type 0
IsUsage words ends status = ((place : ℕ) × IsFirstWrong words place × (status ≡ record { code = 2; end = 0; place = place; cause = 1 }))
    ⊎ ((asked : Asked) × AskFor asked words × (ends ≢ ends_for asked) × (status ≡ record { code = 2; end = 0; place = ends; cause = 2 }))
