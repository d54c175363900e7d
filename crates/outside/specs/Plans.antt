-- Which calls of an object in memory fail.
use Rattle.std.specs.Prelude.{ℕ, ◌+◌, ◌-◌, ◌^◌, ◌==◌, min, Bool}
use Rattle.std.specs.List.{list_any}
use Rattle.outside.specs.declared.plan.FaultPlan.{FaultPlan}

-- one more, up to the end of a u64
abbrev pub one_more : ℕ → ℕ
one_more n = min (n + 1) (2 ^ 64 - 1)

-- the number of the next call is listed
abbrev pub is_due : FaultPlan → Bool
is_due plan = list_any (λ n. n == one_more plan.calls) plan.failing
