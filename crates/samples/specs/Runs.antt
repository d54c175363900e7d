-- What a run of `sample` writes, and that a number has one sample.
use Rattle.std.specs.Prelude.{◌≡◌, ℕ, List, Option}
use Rattle.std.specs.Io.KnownBytes.{Keeps}
use Rattle.outside.specs.Causes.{Rose}
use Rattle.samples.specs.Lines.{AreLinesOf, HasWritten, HasBegun}
use Rattle.samples.specs.declared.sampling.Sampling.{Sampling}
use Rattle.samples.specs.declared.sampling.Sampling.TheVariants.{Whole, WriteFault, OutOfMemory}

-- How a run of `sample` ended, by what was written, and how often the sink had failed, before and after.
abbrev pub SamplesBy : Sampling → ℕ → Option (List ℕ) → Option (List ℕ) → ℕ → ℕ → Type 0
SamplesBy Whole n written written' k k' = HasWritten n written written'
SamplesBy WriteFault n written written' k k' = Rose k k' × HasBegun n written written'
SamplesBy OutOfMemory n written written' k k' = Keeps written written'

-- Nothing was written.
abbrev pub IsSilent : Sampling → Type 0
IsSilent Whole = ⊥
IsSilent WriteFault = ⊥
IsSilent OutOfMemory = Unit {0}

-- The six lines are a function of the number.
abbrev pub OneText : Type 0
OneText = (n : ℕ) (lines other : List ℕ) → AreLinesOf n lines → AreLinesOf n other → lines ≡ other
