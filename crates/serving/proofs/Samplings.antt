-- Which status the runs of `sample` have.
use Rattle.std.proofs.Common.{◌≡◌, ◌⊎◌, inl, inr, ap, arith}
use Rattle.samples.specs.declared.sampling.Sampling.{Sampling}
use Rattle.samples.specs.declared.sampling.Sampling.TheVariants.{Whole, WriteFault, OutOfMemory}
use Rattle.serving.specs.Samplings.{sampling_status}

-- no sample has the status of words or ends that don't fit
pub no-usage-sampled : (way : Sampling) → (sampling_status way).code ≡ 2 → ⊥
unfolding sampling_status
no-usage-sampled Whole e = omega (arith, e)
no-usage-sampled WriteFault e = omega (arith, e)
no-usage-sampled OutOfMemory e = omega (arith, e)

-- the status of a whole sample, and of one that lacked memory
pub sampled-or-no-memory : (way : Sampling) → (way ≡ Whole) ⊎ (way ≡ OutOfMemory) → ((sampling_status way).code ≡ 0) ⊎ ((sampling_status way).code ≡ 6)
unfolding sampling_status
sampled-or-no-memory way (inl is) = inl (ap (λ w. (sampling_status w).code) is)
sampled-or-no-memory way (inr is) = inr (ap (λ w. (sampling_status w).code) is)
