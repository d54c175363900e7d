use Rattle.certificates.proofs.Holding.{floors-hold}
use Rattle.certificates.proofs.FirstTotals.{first-number}
use Rattle.certificates.proofs.law.least_floors_law.Goals as goal

pub returns : goal.returns
returns c = record {
  hold = λ g c d weights told valid comp made sought least all. floors-hold g c d valid comp made sought weights least told all;
  first = λ g c d weights es made least whole. first-number g c d made weights least es whole;
}
