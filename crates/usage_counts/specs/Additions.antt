-- Steps by which uses are added to a map: first each key gets a place, then each use is added.
use Rattle.std.specs.Prelude.{ℕ, zero, suc, ◌+◌, Bool, nat_lt, List, Option, Some}
use Rattle.std.specs.Option.{unwrap_or, option_map}
use Rattle.std.specs.List.{filter}
use Rattle.usage_counts.specs.Counts.{held}

-- What a key has once it was given a place so often: 0, where it had none.
abbrev pub placed_by : ℕ → Option ℕ → Option ℕ
placed_by zero old = old
placed_by (suc n) old = Some (unwrap_or old 0)

-- What a key that has a place has after so many uses more.
abbrev pub raised_by : ℕ → Option ℕ → Option ℕ
raised_by zero old = old
raised_by (suc n) old = option_map (λ v. held (v + suc n)) old

abbrev pub is_used : {K : Type 0} → K × ℕ → Bool
is_used e = nat_lt 0 e.1

-- The entries with a use.
abbrev pub used_of : {K : Type 0} → List (K × ℕ) → List (K × ℕ)
used_of es = filter is_used es
