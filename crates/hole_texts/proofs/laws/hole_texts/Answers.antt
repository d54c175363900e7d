use Rattle.hole_texts.proofs.Apart.{readable, told, apart}
use Rattle.hole_texts.proofs.laws.hole_texts.Goals as goal

pub returns : goal.returns
returns c = record { readable = readable; told = told; apart = apart }
