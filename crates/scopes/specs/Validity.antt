-- What makes an environment valid.
use Rattle.std.specs.Prelude.{◌≡◌, true, false}
use Rattle.type_names.specs.declared.kinds.Erased.{Erased}
use Rattle.offers.specs.Scenes.{Scene}

-- The subtype relation is a strict order.
pub record IsOrdered (v : Scene) : Type 0 where
  pub never : (a : Erased) → v.below a a ≡ false
  pub through : (a b c : Erased) → v.below a b ≡ true → v.below b c ≡ true → v.below a c ≡ true
