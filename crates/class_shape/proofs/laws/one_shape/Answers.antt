use Rattle.class_shape.proofs.ShapeLaws.{unique}
use Rattle.class_shape.proofs.laws.one_shape.Goals as goal

pub returns : goal.returns
returns c = record { one = unique }
