use Rattle.class_shape.proofs.LayoutLaws.{prefixes, longer, meaning}
use Rattle.class_shape.proofs.laws.layout_laws.Goals as goal

pub returns : goal.returns
returns c = record { prefixes = prefixes; longer = longer; meaning = meaning }
