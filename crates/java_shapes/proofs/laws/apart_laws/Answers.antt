use Rattle.java_shapes.proofs.TextTold.{text_told, inhabitants_told}
use Rattle.java_shapes.proofs.Worked.{worked, worked_rows}
use Rattle.java_shapes.proofs.laws.apart_laws.Goals as goal

pub returns : goal.returns
returns c = record {
  one_term = λ g ctx e f valid apart short context te tf same. text_told g valid apart short ctx context e f te tf same;
  worked = (worked, worked_rows);
  one_inhabitant = λ g e f valid apart short he hf same. inhabitants_told g valid apart short e f he hf same;
}
