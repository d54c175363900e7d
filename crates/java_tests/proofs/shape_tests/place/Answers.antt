use Rattle.std.proofs.Common.{◌≡◌, ◌∙◌, ap, refl, ℕ, ◌&&◌, not, true, [], ◌∷◌, codes}
use Rattle.std.specs.Str.{chars}
use Rattle.java_tokens.specs.Words.{is_word}
use Rattle.java_units.specs.Signs.{has, reserved}
use Rattle.java_shapes.specs.Words.{spells_identifier}
use Rattle.java_shapes.proofs.WordFacts.{and_both}
use Rattle.java_shapes.proofs.RunWords.{ascii_word}
use Rattle.java_tests.proofs.shape_tests.place.Goals as goal

one_letter : (c : ℕ) → chars (c ∷ []) ≡ c ∷ [] → is_word (c ∷ []) ≡ true → not (has reserved (c ∷ [])) ≡ true → spells_identifier (chars (c ∷ [])) ≡ true
unfolding spells_identifier
one_letter c same word free = ap (λ x. is_word x && not (has reserved x)) same ∙ and_both (is_word (c ∷ [])) (not (has reserved (c ∷ []))) word free

letter_p : spells_identifier (chars (codes "p")) ≡ true
unfolding chars has reserved
letter_p = one_letter 112 refl (ascii_word (codes "p") refl refl refl) refl

pub read_shape-requires : goal.read_shape-requires
read_shape-requires c = letter_p
