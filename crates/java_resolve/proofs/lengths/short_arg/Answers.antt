use Rattle.std.proofs.Common.{arith, sym, subst, ◌<◌, ◌^◌, ◌∷◌, [], length}
use Rattle.java_shapes.specs.Readable.{AreShort}
use Rattle.java_resolve.proofs.lengths.short_arg.Goals as goal

pub returns-in-Plain : goal.returns-in-Plain
returns-in-Plain c = subst (λ z. AreShort (z ∷ [])) (sym c.in-Plain.is) tt

pub returns-in-Fun : goal.returns-in-Fun
returns-in-Fun c = let short : length c.in-Fun.row < 2 ^ 64 = omega (arith, c.len-length.ensures) in subst (λ z. AreShort (z ∷ [])) (sym c.in-Fun.is) (short, tt)
