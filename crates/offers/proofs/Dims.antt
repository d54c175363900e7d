-- Dimensions behind a text.
use Rattle.std.proofs.Common.{◌≡◌, ◌∙◌, ap, sym, refl, arith, ℕ, suc, ◌+◌, List, ◌++◌}
use Rattle.std.specs.Prelude.{codes}
use Rattle.offers.specs.Spellings.{with_dims}

pub dims-start : (text : List ℕ) → text ≡ with_dims 0 text
unfolding with_dims
dims-start text = refl

dims-suc : (n : ℕ) (text : List ℕ) → with_dims (suc n) text ≡ with_dims n text ++ codes "[]"
unfolding with_dims
dims-suc n text = refl

pub dims-on : (n : ℕ) (text x y : List ℕ) → x ≡ with_dims n text → y ≡ x ++ codes "[]" → y ≡ with_dims (n + 1) text
dims-on n text x y h e = let s : suc n ≡ n + 1 = omega arith in e ∙ ap (λ z. z ++ codes "[]") h ∙ sym (dims-suc n text) ∙ ap (λ m. with_dims m text) s
