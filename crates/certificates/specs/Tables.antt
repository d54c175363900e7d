-- The tables that floors are told from.
use Rattle.std.specs.Prelude.{◌≡◌, ◌<◌, length, map}
use Rattle.terms.specs.declared.parts.Parts.{Parts}
use Rattle.succinct.specs.Compression.{IsCompression}
use Rattle.succinct.specs.Numbering.{IsGrown}
use Rattle.patterns.specs.Patterned.{ArePatterns, AreSought}
use Rattle.least_weights.specs.LeastWeight.{AreLeastWeights}
use Rattle.certificates.specs.Results.{AreByResult}
use Rattle.certificates.specs.Told.{ToldStates}
use Rattle.certificates.specs.declared.tables.Tables.{Tables}

-- the states of an environment with their least weights, and its declarations and pairs by what they give
pub record AreTables (g : Parts) (t : Tables) : Type 0 where
  pub compressed : IsCompression g t.compressed
  pub patterns : ArePatterns t.compressed g.goal g.depth t.patterns
  pub sought : AreSought t.compressed t.patterns
  pub small : length t.patterns.states < 4294967296
  pub least : AreLeastWeights g t.patterns t.least
  pub by_result : AreByResult g (map (λ l. l.items) t.by_result.items)

-- some states more are told
pub record IsLater (old new : ToldStates) : Type 0 where
  pub as_many : new.count ≡ old.count
  pub grown : IsGrown old.states new.states
