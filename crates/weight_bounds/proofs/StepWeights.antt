-- What a binder weighs, as the parts say it.
use Rattle.std.proofs.Common.{◌≡◌, refl}
use Rattle.terms.specs.Weights.{binder_weight}
use Rattle.terms.specs.declared.parts.Parts.{Parts}

pub binder-is : (g : Parts) → g.steps.binder ≡ binder_weight g
unfolding binder_weight
binder-is g = refl
