use Rattle.std.proofs.Common.{◌≡◌, List, ℕ, true, take}
use Rattle.succinct.specs.Numbering.{IsGrown}
use Rattle.succinct.specs.Sets.{has}
use Rattle.certificates.specs.Tables.{IsLater}
use Rattle.certificates.specs.Told.{IsHeadTold}
use Rattle.certificates.proofs.tables.Tables.tell_type.Given as goal

abbrev pub invariant-loop-head : goal.invariant-loop-head
invariant-loop-head l = record {
  later : IsLater l.initial.told l.told;
  told : (n : ℕ) → has n (take l.head-index l.head-items) ≡ true → (all : List ℕ) → IsGrown l.told.states all → IsHeadTold l.initial.env l.initial.self.compressed l.initial.self.patterns l.initial.self.least all l.initial.state l.initial.most n;
}
