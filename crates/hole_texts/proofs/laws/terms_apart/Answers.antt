use Rattle.java_shapes.proofs.TextTold.{inhabitants_told}
use Rattle.java_resolve.proofs.OwnTexts.{own_text, never_two}
use Rattle.hole_texts.proofs.Apart.{readable, apart, valid}
use Rattle.hole_texts.proofs.Utf8.{inhabitant-utf8}
use Rattle.hole_texts.proofs.laws.terms_apart.Goals as goal

pub returns : goal.returns
returns c = record {
  one_term = λ g e f h short he hf same. inhabitants_told g (valid g h) (apart g h) short e f he hf same;
  utf8 = λ g e h short he. inhabitant-utf8 g e (readable g h) short he;
  own_text = λ g e h short he. own_text g e (valid g h) (apart g h) short he (inhabitant-utf8 g e (readable g h) short he);
  never_two = λ g text h short fault. never_two g text (valid g h) (apart g h) short fault;
}
