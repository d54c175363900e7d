-- The bytes of texts that are joined.
use Rattle.std.proofs.Common.{◌≡◌, ◌∙◌, ap, ap₂, refl, ℕ, List, [], ◌∷◌, ◌++◌, map, Option, Some, None, codes, encode_utf8_all}
use Rattle.std.specs.Option.{option_map}
use Rattle.std.proofs.lemmas.Str.{encodes-append}
use lib.Utf8.{encode}
use Rattle.terms.specs.Text.{listed, bracketed, with_cast}

pub enc_left : encode_utf8_all (codes "(") ≡ codes "("
unfolding encode
enc_left = refl

pub enc_right : encode_utf8_all (codes ")") ≡ codes ")"
unfolding encode
enc_right = refl

pub enc_space : encode_utf8_all (codes " ") ≡ codes " "
unfolding encode
enc_space = refl

pub enc_comma : encode_utf8_all (codes ", ") ≡ codes ", "
unfolding encode
enc_comma = refl

pub enc_dot : encode_utf8_all (codes ".") ≡ codes "."
unfolding encode
enc_dot = refl

pub enc_arrow : encode_utf8_all (codes " -> ") ≡ codes " -> "
unfolding encode
enc_arrow = refl

pub enc_new : encode_utf8_all (codes "new ") ≡ codes "new "
unfolding encode
enc_new = refl

pub enc_this : encode_utf8_all (codes "this") ≡ codes "this"
unfolding encode
enc_this = refl

-- three texts
pub enc_three : (a b c : List ℕ) → encode_utf8_all ((a ++ b) ++ c) ≡ (encode_utf8_all a ++ encode_utf8_all b) ++ encode_utf8_all c
enc_three a b c = encodes-append (a ++ b) c ∙ ap (λ x. x ++ encode_utf8_all c) (encodes-append a b)

pub enc_bracketed : (t : List ℕ) → encode_utf8_all (bracketed t) ≡ bracketed (encode_utf8_all t)
enc_bracketed t = enc_three (codes "(") t (codes ")") ∙ ap₂ (λ x y. (x ++ encode_utf8_all t) ++ y) enc_left enc_right

pub enc_with_cast : (c : Option (List ℕ)) (t : List ℕ) → encode_utf8_all (with_cast c t) ≡ with_cast (option_map encode_utf8_all c) (encode_utf8_all t)
enc_with_cast None t = refl
enc_with_cast (Some k) t =
    encodes-append (bracketed k) (codes " " ++ t)
    ∙ ap₂ (λ x y. x ++ y) (enc_bracketed k) (encodes-append (codes " ") t ∙ ap (λ x. x ++ encode_utf8_all t) enc_space)

pub enc_listed : (ts : List (List ℕ)) → encode_utf8_all (listed ts) ≡ listed (map encode_utf8_all ts)
unfolding listed
enc_listed [] = refl
enc_listed (t ∷ []) = refl
enc_listed (t ∷ u ∷ more) =
    enc_three t (codes ", ") (listed (u ∷ more))
    ∙ ap₂ (λ x y. (encode_utf8_all t ++ x) ++ y) enc_comma (enc_listed (u ∷ more))
