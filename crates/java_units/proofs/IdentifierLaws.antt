-- Texts that are identifiers, and signs that count as such.
use Rattle.std.proofs.Common.{◌≡◌, ap, ℕ, ◌+◌, Bool, true, false, ◌&&◌, not, if◌then◌else◌, List, [], ◌∷◌, refl, All, codes}
use Rattle.std.proofs.lemmas.List.Elements.{All-nil, All-cons, All-head, All-tail}
use Rattle.std.specs.Str.{chars}
use Rattle.java_tokens.specs.Words.{is_word, IsWordByText}
use Rattle.java_tokens.proofs.WordLaws.{word_laws}
use Rattle.java_tokens.specs.declared.token.Token.{Token}
use Rattle.java_tokens.specs.declared.token.TokenKind.{TokenKind}
use Rattle.java_tokens.specs.declared.token.TokenKind.TheVariants as kind
use Rattle.java_units.specs.Signs.{Sign, has, reserved, is, is_blank, text_of, sign_of, signs_from, holding, with_blocks}
use Rattle.java_units.specs.Signs as signs
use Rattle.java_units.specs.Identifiers.{is_identifier, is_ascii_identifier, AsciiIdentifiers}
use Rattle.java_units.specs.Longest.{NamesAreIdentifiers, TextsHaveNames}

pub ascii_identifiers : AsciiIdentifiers
unfolding is_identifier is_ascii_identifier
ascii_identifiers text e = ap (λ b. b && not (has reserved text)) (word_laws.ascii text e)

abbrev IsNamed : Sign → Type 0
IsNamed s = s.is_name ≡ true → is_identifier s.text ≡ true

both : (a b : Bool) → (a && b) ≡ true → (a ≡ true) × (b ≡ true)
both true b e = (refl, e)
both false b e = absurd (cc)

and_true : (a b : Bool) → a ≡ true → b ≡ true → (a && b) ≡ true
and_true a b e f = rw (e, f) refl

word_kind : (k : TokenKind) → signs.is_word k ≡ true → k ≡ kind.Word
word_kind kind.White e = absurd (cc)
word_kind kind.Comment e = absurd (cc)
word_kind kind.Text e = absurd (cc)
word_kind kind.CharText e = absurd (cc)
word_kind kind.Number e = absurd (cc)
word_kind kind.Word e = refl
word_kind kind.Symbol e = absurd (cc)

one_named : (text : List ℕ) (n : ℕ) (t : Token) → IsWordByText text t → IsNamed (sign_of text n t)
unfolding sign_of text_of is_identifier
one_named text n t w e =
    let p = both (signs.is_word t.kind) (not (has reserved (text_of text t))) e in
    and_true (is_word (chars (text_of text t))) (not (has reserved (text_of text t))) (w (word_kind t.kind p.0)) p.1

from_named : (text : List ℕ) (n : ℕ) (ts : List Token) → All (IsWordByText text) ts → NamesAreIdentifiers (signs_from text n ts)
unfolding signs_from
from_named text n [] a = All-nil IsNamed
from_named text n (t ∷ ts) a =
    let more = from_named text (n + 1) ts (All-tail (IsWordByText text) t ts a) in
    elim (is_blank t.kind) as (λ b. NamesAreIdentifiers (if b then signs_from text (n + 1) ts else sign_of text n t ∷ signs_from text (n + 1) ts)) [
      | true ↦ more
      | false ↦ All-cons IsNamed (sign_of text n t) (signs_from text (n + 1) ts) (one_named text n t (All-head (IsWordByText text) t ts a)) more
    ]

blocks_named : (ss : List Sign) → NamesAreIdentifiers ss → NamesAreIdentifiers (with_blocks ss)
unfolding with_blocks
blocks_named [] f = All-nil IsNamed
blocks_named (s ∷ ss) f =
    All-cons IsNamed (record s { holds = if is (codes "{") s then holding 0 ss else 0 }) (with_blocks ss) (All-head IsNamed s ss f) (blocks_named ss (All-tail IsNamed s ss f))

pub texts_have_names : TextsHaveNames
texts_have_names text tokens u are = blocks_named (signs_from text 0 tokens) (from_named text 0 tokens (word_laws.each text tokens u are))
