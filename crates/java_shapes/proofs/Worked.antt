-- An environment whose texts tell its terms apart: two calls with one name, over an `A` and over a `B`.
use Rattle.std.proofs.Common.{◌≡◌, ◌∙◌, inl, inr, ap, sym, subst, refl, ℕ, zero, suc, ◌&&◌, not, true, false, List, [], ◌∷◌, codes, IsUtf8, append-nil}
use Rattle.std.specs.Str.{chars}
use Rattle.java_units.specs.Signs.{has, reserved}
use Rattle.java_tokens.specs.Words.{is_word}
use Rattle.terms.specs.Apart.{Declares, Wants, call_over, two_calls}
use Rattle.terms.specs.Text.{type_text}
use Rattle.terms.specs.declared.parts.Decl.{Decl}
use Rattle.terms.proofs.Told as terms
use lib.Utf8.{encode}
use Rattle.java_shapes.specs.Words.{spells_identifier, is_binder, dotted}
use Rattle.java_shapes.specs.Grammar.{dimensions}
use Rattle.java_shapes.specs.Readable.{AreFreeWords, IsFormText, IsTypeText, IsApart, AreShort, HasShortRows}
use Rattle.java_shapes.proofs.WordFacts.{and_both}
use Rattle.java_shapes.proofs.RunWords.{ascii_word}

one_letter : (c : ℕ) → chars (c ∷ []) ≡ c ∷ [] → is_word (c ∷ []) ≡ true → not (has reserved (c ∷ [])) ≡ true → spells_identifier (chars (c ∷ [])) ≡ true
unfolding spells_identifier
one_letter c same word free = ap (λ x. is_word x && not (has reserved x)) same ∙ and_both (is_word (c ∷ [])) (not (has reserved (c ∷ []))) word free

letter_p : spells_identifier (chars (codes "p")) ≡ true
unfolding chars has reserved
letter_p = one_letter 112 refl (ascii_word (codes "p") refl refl refl) refl

letter_f : spells_identifier (chars (codes "f")) ≡ true
unfolding chars has reserved
letter_f = one_letter 102 refl (ascii_word (codes "f") refl refl refl) refl

letter_A : spells_identifier (chars (codes "A")) ≡ true
unfolding chars has reserved
letter_A = one_letter 65 refl (ascii_word (codes "A") refl refl refl) refl

letter_B : spells_identifier (chars (codes "B")) ≡ true
unfolding chars has reserved
letter_B = one_letter 66 refl (ascii_word (codes "B") refl refl refl) refl

utf8 : (c : ℕ) → encode c ≡ c ∷ [] → lib.Utf8.scalars (c ∷ []) ≡ true → IsUtf8 (c ∷ [])
utf8 c e s = (c ∷ [], (s, append-nil (encode c) ∙ e))

utf8_p : IsUtf8 (codes "p")
unfolding encode
utf8_p = utf8 112 refl refl

utf8_f : IsUtf8 (codes "f")
unfolding encode
utf8_f = utf8 102 refl refl

utf8_A : IsUtf8 (codes "A")
unfolding encode
utf8_A = utf8 65 refl refl

utf8_B : IsUtf8 (codes "B")
unfolding encode
utf8_B = utf8 66 refl refl

-- a letter that isn't `p` is free
one_free : (w : List ℕ) → spells_identifier w ≡ true → is_binder (chars (codes "p")) w ≡ false → AreFreeWords (two_calls true) w
unfolding dotted
one_free w h b = record { first = w; rest = []; first_is = and_both (spells_identifier w) (not (is_binder (chars (codes "p")) w)) h (ap not b); rest_are = refl; is = sym (append-nil w) }

free_f : AreFreeWords (two_calls true) (chars (codes "f"))
unfolding chars is_binder
free_f = one_free (chars (codes "f")) letter_f refl

free_A : AreFreeWords (two_calls true) (chars (codes "A"))
unfolding chars is_binder
free_A = one_free (chars (codes "A")) letter_A refl

free_B : AreFreeWords (two_calls true) (chars (codes "B"))
unfolding chars is_binder
free_B = one_free (chars (codes "B")) letter_B refl

type_A : IsTypeText (two_calls true) (codes "A")
unfolding dimensions
type_A = record { utf8 = utf8_A; base = chars (codes "A"); count = zero; base_is = inl free_A; is = sym (append-nil (chars (codes "A"))) }

type_B : IsTypeText (two_calls true) (codes "B")
unfolding dimensions
type_B = record { utf8 = utf8_B; base = chars (codes "B"); count = zero; base_is = inl free_B; is = sym (append-nil (chars (codes "B"))) }

forms : (i : ℕ) (d : Decl) → Declares (two_calls true) i d → IsFormText (two_calls true) d.form
forms zero d is = let same : call_over 0 true ≡ d = cc in subst (λ x. IsFormText (two_calls true) x.form) same (utf8_f, free_f)
forms (suc zero) d is = let same : call_over 1 true ≡ d = cc in subst (λ x. IsFormText (two_calls true) x.form) same (utf8_f, free_f)
forms (suc (suc i)) d is = absurd cc

wanted_A : (b : ℕ) → Wants (call_over 0 true).args b → IsTypeText (two_calls true) (type_text (two_calls true) b)
wanted_A b (inl e) = subst (λ x. IsTypeText (two_calls true) (type_text (two_calls true) x)) e type_A
wanted_A b (inr h) = absurd h

wanted_B : (b : ℕ) → Wants (call_over 1 true).args b → IsTypeText (two_calls true) (type_text (two_calls true) b)
wanted_B b (inl e) = subst (λ x. IsTypeText (two_calls true) (type_text (two_calls true) x)) e type_B
wanted_B b (inr h) = absurd h

types : (i : ℕ) (d : Decl) (b : ℕ) → Declares (two_calls true) i d → d.crowded ≡ true → Wants d.args b → IsTypeText (two_calls true) (type_text (two_calls true) b)
types zero d b is c w = let same : call_over 0 true ≡ d = cc in wanted_A b (subst (λ x. Wants x.args b) (sym same) w)
types (suc zero) d b is c w = let same : call_over 1 true ≡ d = cc in wanted_B b (subst (λ x. Wants x.args b) (sym same) w)
types (suc (suc i)) d b is c w = absurd cc

pub worked : IsApart (two_calls true)
worked = record { readable = record { binder_text = utf8_p; binder = letter_p; forms = forms; types = types }; told = terms.told }

pub worked_rows : HasShortRows (two_calls true)
worked_rows zero d is = let same : call_over 0 true ≡ d = cc in subst (λ x. AreShort x.args) same tt
worked_rows (suc zero) d is = let same : call_over 1 true ≡ d = cc in subst (λ x. AreShort x.args) same tt
worked_rows (suc (suc i)) d is = absurd cc
