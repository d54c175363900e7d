-- Terms that are made of a front, which is read from its end.
use Rattle.std.specs.Prelude.{◌≡◌, ℕ, true, List, [], ◌∷◌, ◌++◌, length, slice_get, Some}
use Rattle.terms.specs.Code.{prefix_code}
use Rattle.terms.specs.Expr.{Expr, var, head, Args, no_args}
use Rattle.terms.specs.Place.{goal_place, fits_place}
use Rattle.terms.specs.Reading.{Reading, Symbol, variable, declared, symbol, fit_all}
use Rattle.terms.specs.Typing.{args_wanted, placed}
use Rattle.terms.specs.View.{expr, arg}
use Rattle.terms.specs.declared.parts.Arg.{Arg}
use Rattle.terms.specs.declared.parts.Parts.{Parts}
use Rattle.terms.specs.declared.term.Term.{Term}
use Rattle.terms.specs.declared.term.TermArg.{TermArg}
use Rattle.partial_terms.specs.Fronts.{reading}

-- the terms of a stack, the one on top first
abbrev pub stacked : List Term → List Expr
stacked [] = []
stacked (t ∷ ts) = stacked ts ++ expr t ∷ []

-- arguments before others
abbrev pub onto : List TermArg → Args → Args
onto [] rest = rest
onto (a ∷ more) rest = arg a (onto more rest)

-- the arguments that the first terms make at these places
abbrev pub args_with : List Arg → List Expr → Args
args_with [] es = no_args
args_with (a ∷ more) [] = no_args
args_with (a ∷ more) (e ∷ es) = placed a e (args_with more es)

-- the terms after those
abbrev pub left_over : List Arg → List Expr → List Expr
left_over [] es = es
left_over (a ∷ more) [] = []
left_over (a ∷ more) (e ∷ es) = left_over more es

-- what a declaration of this number wants
abbrev pub wanted_by : Parts → ℕ → List Arg
wanted_by g d = args_wanted (slice_get g.decls d)

-- a head over the terms that follow it
abbrev pub applied_by : Parts → Symbol → List Expr → List Expr
applied_by g (variable n) es = var n ∷ es
applied_by g (declared d) es = head d (args_with (wanted_by g d) es) ∷ left_over (wanted_by g d) es

-- a number of a code over the terms that follow it
abbrev pub applied : Parts → ℕ → List Expr → List Expr
applied g n es = applied_by g (symbol n) es

-- how many terms a head takes
abbrev pub takes_by : Parts → Symbol → ℕ
takes_by g (variable n) = 0
takes_by g (declared d) = length (wanted_by g d)

abbrev pub takes : Parts → ℕ → ℕ
takes g n = takes_by g (symbol n)

-- the codes of terms, one after the other
abbrev pub all_codes : List Expr → List ℕ
all_codes [] = []
all_codes (e ∷ es) = prefix_code e ++ all_codes es

-- a front that leaves no place open
pub record IsEnded (g : Parts) (f : List ℕ) : Type 0 where
  pub weight : ℕ
  pub is : reading g (goal_place g) f ≡ Some (record { weight = weight; open_places = [] })

-- a front that was read from its end: the terms of what was read fit the places that the numbers before leave open
pub record IsRead (g : Parts) (f before : List ℕ) (es : List Expr) : Type 0 where
  pub at : Reading
  pub is : reading g (goal_place g) before ≡ Some at
  pub fit : fit_all g at.open_places es ≡ true
  pub coded : f ≡ before ++ all_codes es

-- the term of a front
pub record IsTermOf (g : Parts) (f : List ℕ) (e : Expr) : Type 0 where
  pub coded : f ≡ prefix_code e
  pub fit : fits_place g (goal_place g) e ≡ true

-- the terms of fronts
abbrev pub AreTermsOf : Parts → List (List ℕ) → List Expr → Type 0
AreTermsOf g [] [] = Unit {0}
AreTermsOf g [] (x ∷ xs) = ⊥
AreTermsOf g (f ∷ fs) [] = ⊥
AreTermsOf g (f ∷ fs) (x ∷ xs) = IsTermOf g f x × AreTermsOf g fs xs
