-- Lengths of lexemes and of their signs.
pub use Rattle.java_units.proofs.Walks.{seen-length}
pub use Rattle.std.proofs.lemmas.List.{length-drop}

pub ruleset lengths = (seen-length, length-drop)
