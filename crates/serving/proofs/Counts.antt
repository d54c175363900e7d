-- Which status the runs of `count` have.
use Rattle.std.proofs.Common.{◌≡◌, ◌⊎◌, inl, inr, ap, arith}
use Rattle.counting.specs.declared.counting.Counting.{Counting}
use Rattle.counting.specs.declared.counting.Counting.TheVariants.{Whole, NotStarted, ShelfFault, WriteFault, OutOfMemory}
use Rattle.serving.specs.Counts.{counting_status}

-- no count has the status of words or ends that don't fit
pub no-usage-counted : (way : Counting) → (counting_status way).code ≡ 2 → ⊥
unfolding counting_status
no-usage-counted Whole e = omega (arith, e)
no-usage-counted (NotStarted line cause) e = omega (arith, e)
no-usage-counted ShelfFault e = omega (arith, e)
no-usage-counted WriteFault e = omega (arith, e)
no-usage-counted OutOfMemory e = omega (arith, e)

-- the status of a whole count, and of one that lacked memory
pub counted-or-no-memory : (way : Counting) → (way ≡ Whole) ⊎ (way ≡ OutOfMemory) → ((counting_status way).code ≡ 0) ⊎ ((counting_status way).code ≡ 6)
unfolding counting_status
counted-or-no-memory way (inl is) = inl (ap (λ w. (counting_status w).code) is)
counted-or-no-memory way (inr is) = inr (ap (λ w. (counting_status w).code) is)
