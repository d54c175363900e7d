-- The words and numbers of a line, and the places of names in a list.
use Rattle.std.specs.Prelude.{ℕ, zero, suc, Bool, ◌&&◌, ◌==◌, not, nat_le, List, [], ◌∷◌, length, map, if◌then◌else◌, is_some, unwrap_or}
use Rattle.std.specs.List.{slice_split, list_any}
use Rattle.std.specs.Str.{all_ascii_digits}
use Rattle.std.specs.Str.Parse.{digits_value}
use denote.Ref.{Bor}
use Rattle.name_places.specs.Places.{place_of}

-- what some texts hold
abbrev pub texts : List (Bor (List ℕ)) → List (List ℕ)
texts ws = map (λ w. w.now) ws

-- one of some words, the empty one where there is none
unfoldable pub word : List (List ℕ) → ℕ → List ℕ
word [] n = []
word (w ∷ ws) zero = w
word (w ∷ ws) (suc n) = word ws n

-- the words of a line: what stands between its single spaces
abbrev pub words_of : List ℕ → List (List ℕ)
words_of line = slice_split (λ b. b == 32) line

-- one character or more, and no carriage return
unfoldable pub is_word : List ℕ → Bool
is_word w = not (length w == 0) && not (list_any (λ b. b == 13) w)

-- one to nine digits
unfoldable pub is_number : List ℕ → Bool
is_number w = (nat_le 1 (length w) && nat_le (length w) 9) && all_ascii_digits w

-- the value of a number in decimal, 0 where it is none
unfoldable pub number : List ℕ → ℕ
number w = if is_number w then digits_value 10 w else 0

-- whether a name stands in a list of names
abbrev pub has : List (List ℕ) → List ℕ → Bool
has names t = is_some (place_of names t)

-- its place, 0 where it doesn't stand there
abbrev pub index_of : List (List ℕ) → List ℕ → ℕ
index_of names t = unwrap_or (place_of names t) 0
