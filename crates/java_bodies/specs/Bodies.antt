-- The signs of a method's body.
use Rattle.std.specs.Prelude.{List}
use Rattle.java_units.specs.Signs.{Sign}

-- What stands from behind the `{` of a body up to the prefix of the hole, and up to the end of the text.
pub record BodySigns : Type 0 where
  pub before : List Sign
  pub whole : List Sign
