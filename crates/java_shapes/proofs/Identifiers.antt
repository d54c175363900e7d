-- A text is an identifier where its characters are.
use Rattle.std.proofs.Common.{◌≡◌, ◌∙◌, ap, ap₂, sym, ℕ, zero, suc, ◌<◌, ◌&&◌, ◌||◌, not, true, List, [], ◌∷◌, lit<, refl, bytes_eq, chars, encode_utf8_all, IsUtf8, rules, tests}
use Rattle.std.specs.List.{list_all}
use Rattle.std.specs.Char.{is_ascii}
use Rattle.std.specs.Str.{IsAscii}
use Rattle.std.specs.Bool.{one_answer}
use Rattle.std.proofs.lemmas.Bool.{and_parts}
use Rattle.std.proofs.lemmas.Slice.Eq.{bytes_eq-Decides}
use Rattle.std.proofs.lemmas.Str.{chars-IsAscii, encodes-IsAscii, encodes-chars}
use Rattle.java_tokens.specs.Words.{is_word}
use Rattle.java_units.specs.Signs.{has, reserved}
use Rattle.java_units.specs.Identifiers.{is_identifier}
use Rattle.java_shapes.specs.Words.{spells_identifier}

below : (c : ℕ) → is_ascii c ≡ true → c < 128
below c e = search (rules, tests)

all_below : (cs : List ℕ) → list_all is_ascii cs ≡ true → IsAscii cs
all_below [] e zero = lit< tt
all_below [] e (suc i) = lit< tt
all_below (c ∷ cs) e zero = below c (and_parts (is_ascii c) (list_all is_ascii cs) e).0
all_below (c ∷ cs) e (suc i) = all_below cs (and_parts (is_ascii c) (list_all is_ascii cs) e).1 i

same_test : (x t : List ℕ) → list_all is_ascii x ≡ true → IsUtf8 t → bytes_eq x (chars t) ≡ bytes_eq x t
same_test x t a u =
    let ascii = all_below x a in
    let d = bytes_eq-Decides x (chars t) in
    one_answer (bytes_eq x (chars t)) (bytes_eq x t)
    ((λ e. sym (encodes-IsAscii x ascii) ∙ ap encode_utf8_all (d.0 e) ∙ encodes-chars t u), (λ e. d.1 (sym (chars-IsAscii x ascii) ∙ ap chars e)))
    (bytes_eq-Decides x t)

has_same : (xs : List (List ℕ)) (t : List ℕ) → list_all (λ x. list_all is_ascii x) xs ≡ true → IsUtf8 t → has xs (chars t) ≡ has xs t
unfolding has
has_same [] t a u = refl
has_same (x ∷ xs) t a u =
    let k = and_parts (list_all is_ascii x) (list_all (λ y. list_all is_ascii y) xs) a in
    ap₂ (λ b c. b || c) (same_test x t k.0 u) (has_same xs t k.1 u)

reserved_ascii : list_all (λ x. list_all is_ascii x) reserved ≡ true
unfolding reserved
reserved_ascii = refl

pub same_identifiers : (t : List ℕ) → IsUtf8 t → spells_identifier (chars t) ≡ is_identifier t
unfolding spells_identifier is_identifier
same_identifiers t u = ap (λ b. is_word (chars t) && not b) (has_same reserved t reserved_ascii u)
