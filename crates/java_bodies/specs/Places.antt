-- Places of a text at which a hole may be.
use Rattle.std.specs.Prelude.{ℕ, Bool, true, false, ◌&&◌, ◌==◌, not, nat_lt, nat_le, nat_eq, List, drop, find, count_by, if◌then◌else◌, codes, Option, Some, None}
use Rattle.std.specs.List.{starts_with}
use Rattle.java_tokens.specs.Tokens.{is_closed}
use Rattle.java_tokens.specs.declared.token.Token.{Token}
use Rattle.java_tokens.specs.declared.token.TokenKind.{TokenKind}
use Rattle.java_tokens.specs.declared.token.TokenKind.TheVariants as kind
use Rattle.java_units.specs.Signs.{is_word}

-- Whether the place lies inside the token or right behind it.
unfoldable pub touches : ℕ → Token → Bool
touches place t = nat_lt t.start place && nat_le place t.end

-- The token inside or right behind which the place lies.
unfoldable pub touched : List Token → ℕ → Option Token
touched tokens place = find (touches place) tokens

-- Whether it is a comment that the end of its line ends.
unfoldable pub is_line_comment : List ℕ → Token → Bool
is_line_comment text t = starts_with nat_eq (drop t.start text) (codes "//")

-- Whether a hole may stand right behind a token of this kind: not behind a comment up to the end of its line,
-- nor behind a comment or a text that isn't closed.
abbrev pub may_end : TokenKind → List ℕ → Token → Bool
may_end kind.White text t = true
may_end kind.Comment text t = not (is_line_comment text t) && is_closed text t
may_end kind.Text text t = is_closed text t
may_end kind.CharText text t = is_closed text t
may_end kind.Number text t = true
may_end kind.Word text t = true
may_end kind.Symbol text t = true

abbrev pub is_white : TokenKind → Bool
is_white kind.White = true
is_white kind.Comment = false
is_white kind.Text = false
is_white kind.CharText = false
is_white kind.Number = false
is_white kind.Word = false
is_white kind.Symbol = false

-- Whether a hole may be at the place, by the token that it touches: strictly inside white space alone.
unfoldable pub is_free : List ℕ → ℕ → Option Token → Bool
is_free text place None = true
is_free text place (Some t) = if t.end == place then may_end t.kind text t else is_white t.kind

-- Where the prefix of the hole begins: with the word that ends at the place, else at the place.
unfoldable pub prefix_start : ℕ → Option Token → ℕ
prefix_start place None = place
prefix_start place (Some t) = if t.end == place && is_word t.kind then t.start else place

-- How many tokens end at the place or before it.
unfoldable pub passed : List Token → ℕ → ℕ
passed tokens place = count_by (λ t. nat_le t.end place) tokens
