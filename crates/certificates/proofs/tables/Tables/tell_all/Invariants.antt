use Rattle.certificates.specs.Tables.{IsLater}
use Rattle.certificates.proofs.Steps.{AreBeforeTold}
use Rattle.certificates.proofs.tables.Tables.tell_all.Given as goal

abbrev pub invariant-loop-place : goal.invariant-loop-place
invariant-loop-place l = record {
  later : IsLater l.initial.told l.told;
  told : AreBeforeTold l.initial.env l.initial.self.compressed l.initial.self.patterns l.initial.self.least l.told.states l.place;
}
