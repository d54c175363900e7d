use Rattle.java_units.proofs.IdentifierLaws.{ascii_identifiers, texts_have_names}
use Rattle.java_units.proofs.laws.identifier_laws.Goals as goal

pub returns : goal.returns
returns c = record { ascii = ascii_identifiers; named = texts_have_names }
