-- The pieces of a printed call, in the order in which the printer writes them.
use Rattle.std.specs.Prelude.{ℕ, Bool, true, false, ◌&&◌, ◌||◌, not, if◌then◌else◌, List, [], ◌∷◌, ◌++◌, map, Option, Some, None}
use Rattle.terms.specs.Expr.{Args, no_args}
use Rattle.terms.specs.View.{arg, args_view}
use Rattle.terms.specs.Typing.{fits}
use Rattle.terms.specs.Text.{Printed, printed, argument_text, receiver_text, bracketed, has_cast, is_bare_this, listed}
use Rattle.terms.specs.declared.parts.Arg.{Arg}
use Rattle.terms.specs.declared.parts.Parts.{Parts}
use Rattle.terms.specs.declared.term.TermArg.{TermArg}

-- what stands between two texts of a list
abbrev pub separator : Bool → List ℕ
separator true = []
separator false = 44 ∷ 32 ∷ []

-- what is left of a list of texts: `first` says that none of them was written yet
unfoldable pub rest_text : Bool → List (List ℕ) → List ℕ
rest_text first [] = []
rest_text first (t ∷ ts) = separator first ++ listed (t ∷ ts)

-- a cast before a term
abbrev pub cast_text : Option (List ℕ) → List ℕ
cast_text None = []
cast_text (Some c) = bracketed c ++ 32 ∷ []

-- one argument at its place, as a list of one where it fits there
unfoldable pub at_place : Parts → List (List ℕ) → Bool → TermArg → Arg → List Printed
at_place g ctx crowded a w = printed g ctx crowded (arg a no_args) (w ∷ [])

-- whether one argument fits its place
unfoldable pub suits_place : Parts → List (List ℕ) → TermArg → Arg → Bool
suits_place g ctx a w = fits g ctx (arg a no_args) (w ∷ [])

-- the text of the first argument
abbrev pub first_text : List Printed → List ℕ
first_text [] = []
first_text (p ∷ ps) = argument_text p

-- whether the first argument is `this` without a cast
abbrev pub is_first_bare : List Printed → Bool
is_first_bare [] = false
is_first_bare (p ∷ ps) = is_bare_this p

-- whether the first argument, as a receiver, stands in brackets
abbrev pub is_first_bracketed : List Printed → Bool
is_first_bracketed [] = false
is_first_bracketed (p ∷ ps) = has_cast p || p.lambda

-- the first argument as a receiver with its dot: nothing for a bare `this` that isn't kept
abbrev pub owner_text : Bool → List Printed → List ℕ
owner_text keeps [] = []
owner_text keeps (p ∷ ps) = if is_bare_this p && not keeps then [] else receiver_text p ++ 46 ∷ []

-- the texts of arguments at their places
abbrev pub argument_texts : Parts → List (List ℕ) → Bool → List TermArg → List Arg → List (List ℕ)
argument_texts g ctx crowded xs ws = map argument_text (printed g ctx crowded (args_view xs) ws)
