use Rattle.std.proofs.Common.{◌≡◌, List, ℕ, true, take}
use Rattle.succinct.specs.Numbering.{IsGrown}
use Rattle.succinct.specs.Sets.{has}
use Rattle.certificates.specs.Tables.{IsLater}
use Rattle.certificates.specs.Told.{IsPairTold}
use Rattle.certificates.proofs.tables.Tables.tell_lowers.Given as goal

abbrev pub invariant-loop-source : goal.invariant-loop-source
invariant-loop-source l = record {
  later : IsLater l.initial.told l.told;
  told : (n : ℕ) → has n (take l.source-index l.source-items) ≡ true → (all : List ℕ) → IsGrown l.told.states all → IsPairTold l.initial.env l.initial.self.compressed l.initial.self.patterns l.initial.self.least all l.initial.state l.initial.most n;
}
