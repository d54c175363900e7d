use Rattle.std.proofs.Common.{List, ℕ, drop}
use Rattle.succinct.specs.Numbering.{IsGrown}
use Rattle.certificates.specs.Tables.{IsLater}
use Rattle.certificates.specs.Told.{AreTold}
use Rattle.certificates.proofs.tables.Tables.tell_needs.Given as goal

abbrev pub invariant-loop-need : goal.invariant-loop-need
invariant-loop-need l = record {
  later : IsLater l.initial.told l.told;
  told : (all : List ℕ) → IsGrown l.told.states all → AreTold l.initial.env l.initial.self.patterns l.initial.self.least all l.initial.state (drop l.need-index l.need-items) l.rest → AreTold l.initial.env l.initial.self.patterns l.initial.self.least all l.initial.state l.need-items l.initial.most;
}
