-- The text of an expression in pieces, from left to right.
use Rattle.std.specs.Prelude.{ℕ, Bool, true, false, List, [], ◌∷◌, ◌++◌, Option, Some, None, codes, if◌then◌else◌}
use Rattle.java_tokens.specs.Classes.{is_word_part}
use Rattle.java_shapes.specs.Shape.{Shape, named, called, lambda, Before, nothing, fresh, behind, in_brackets, Shapes, no_shapes, shapes}

-- a sign, or a word (maybe empty) within the binders of the lambdas around it; texts are lists of characters
pub data Piece : Type 0 where
  sign : List ℕ → Piece
  word : List (List ℕ) → List ℕ → Piece

-- a text within these binders, of whose first word these characters were read: words, and between them each
-- character that is in no word
unfoldable pub cut : List (List ℕ) → List ℕ → List ℕ → List Piece
cut bound w [] = word bound w ∷ []
cut bound w (c ∷ cs) = if is_word_part c then cut bound (w ++ c ∷ []) cs else word bound w ∷ sign (c ∷ []) ∷ cut bound [] cs

-- a cast before an expression
abbrev pub cast_pieces : List (List ℕ) → Option (List ℕ) → List Piece
cast_pieces bound None = []
cast_pieces bound (Some t) = sign (codes "(") ∷ (cut bound [] t ++ sign (codes ") ") ∷ [])

-- what stands before an argument or a binder
abbrev pub separator : Bool → List ℕ
separator true = []
separator false = codes ", "

-- binders, each behind a separator; the flag says that the first of them is the first of all
unfoldable pub binder_pieces : List (List ℕ) → Bool → List (List ℕ) → List Piece
binder_pieces bound is_first [] = []
binder_pieces bound is_first (w ∷ more) = (sign (separator is_first) ∷ cut bound [] w) ++ binder_pieces bound false more

-- the interface and the binders of a lambda, up to its body
abbrev pub header_pieces : List (List ℕ) → List ℕ → List (List ℕ) → List Piece
header_pieces bound s binders = sign (codes "(") ∷ ((cut bound [] s ++ sign (codes ") (") ∷ []) ++ (binder_pieces bound true binders ++ sign (codes ") -> ") ∷ []))

unfoldable mutual
  -- an expression; a lambda is around all of its own text
  pub shape_pieces : List (List ℕ) → Shape → List Piece
  shape_pieces bound (named b t) = before_pieces bound b ++ cut bound [] t
  shape_pieces bound (called b t args) = (before_pieces bound b ++ cut bound [] t) ++ (sign (codes "(") ∷ (args_pieces bound true args ++ sign (codes ")") ∷ []))
  shape_pieces bound (lambda s binders c e) = header_pieces (bound ++ binders) s binders ++ (cast_pieces (bound ++ binders) c ++ shape_pieces (bound ++ binders) e)

  -- what stands before a name
  pub before_pieces : List (List ℕ) → Before → List Piece
  before_pieces bound nothing = []
  before_pieces bound fresh = sign (codes "new ") ∷ []
  before_pieces bound (behind b t args) = ((before_pieces bound b ++ cut bound [] t) ++ (sign (codes "(") ∷ (args_pieces bound true args ++ sign (codes ")") ∷ []))) ++ sign (codes ".") ∷ []
  before_pieces bound (in_brackets c e) = sign (codes "(") ∷ ((cast_pieces bound c ++ shape_pieces bound e) ++ sign (codes ").") ∷ [])

  -- arguments, each behind a separator; the flag says that the first of them is the first of all
  pub args_pieces : List (List ℕ) → Bool → Shapes → List Piece
  args_pieces bound is_first no_shapes = []
  args_pieces bound is_first (shapes c e rest) = (sign (separator is_first) ∷ (cast_pieces bound c ++ shape_pieces bound e)) ++ args_pieces bound false rest

-- the arguments of a call, in their brackets
abbrev pub call_pieces : List (List ℕ) → Shapes → List Piece
call_pieces bound args = sign (codes "(") ∷ (args_pieces bound true args ++ sign (codes ")") ∷ [])

-- the text of a piece, and of several
abbrev pub piece_text : Piece → List ℕ
piece_text (sign t) = t
piece_text (word bound w) = w

unfoldable pub joined : List Piece → List ℕ
joined [] = []
joined (p ∷ ps) = piece_text p ++ joined ps
