use Rattle.java_shapes.proofs.Runs.{one_shape}
use Rattle.java_shapes.proofs.TextLaw.{text_seen}
use Rattle.java_shapes.proofs.Shaped.{term_shaped}
use Rattle.java_shapes.proofs.Identifiers.{same_identifiers}
use Rattle.java_shapes.proofs.laws.shape_laws.Goals as goal

pub returns : goal.returns
returns c = record {
  identifiers = λ text utf8. same_identifiers text utf8;
  one_shape = λ p s t id h k same. one_shape p id s t h k same;
  text_of_shape = λ g ctx e valid readable short context typed. text_seen g valid readable short e ctx context typed;
  in_grammar = λ g ctx e valid readable short context typed. term_shaped g valid readable short e ctx context typed;
}
