use Rattle.source_classes.proofs.OrderOfTexts.{order_plays_no_part}
use Rattle.source_classes.proofs.laws.order_of_texts.Goals as goal

pub returns : goal.returns
returns c = record { law = order_plays_no_part }
