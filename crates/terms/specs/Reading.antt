-- A prefix code read number by number: the weight so far, and the places that are still open.
-- A list of numbers that can be read is a partial term; its completions are the codes that it begins.
use Rattle.std.specs.Prelude.{ℕ, zero, suc, ◌+◌, Bool, true, false, ◌&&◌, List, [], ◌∷◌, ◌++◌, length, slice_get, Option, None, Some}
use Rattle.terms.specs.Expr.{Expr}
use Rattle.terms.specs.Place.{Place, fits_place, weigh}
use Rattle.terms.specs.Typing.{is_below, joined}
use Rattle.terms.specs.Weights.{variable_weight, binders_weight, step_in}
use Rattle.terms.specs.declared.parts.Arg.{Arg}
use Rattle.terms.specs.declared.parts.Arg.TheVariants.{Plain, Fun}
use Rattle.terms.specs.declared.parts.Decl.{Decl}
use Rattle.terms.specs.declared.parts.Parts.{Parts}

-- what has been read: its weight, and the open places, the next one first
pub record Reading : Type 0 where
  pub weight : ℕ
  pub open_places : List Place

-- a head: a variable, or a declaration
pub data Symbol : Type 0 where
  variable : ℕ → Symbol
  declared : ℕ → Symbol

-- the symbol of the next number of its kind
abbrev pub next_symbol : Symbol → Symbol
next_symbol (variable m) = variable (suc m)
next_symbol (declared m) = declared (suc m)

-- 2n is variable n, 2n + 1 is declaration n
unfoldable pub symbol : ℕ → Symbol
symbol zero = variable 0
symbol (suc zero) = declared 0
symbol (suc (suc n)) = next_symbol (symbol n)

-- one lambda fewer
abbrev pub less_one : ℕ → ℕ
less_one zero = zero
less_one (suc n) = n

-- whether a lambda may stand
abbrev pub any_left : ℕ → Bool
any_left zero = false
any_left (suc n) = true

-- whether no lambda is wanted where none may stand
unfoldable pub has_room : ℕ → List Arg → Bool
has_room left [] = true
has_room left (Plain b ∷ more) = has_room left more
has_room left (Fun ps r ∷ more) = any_left left && has_room left more

-- the places of a declaration's arguments
unfoldable pub places : List (List ℕ) → ℕ → List Arg → List Place
places ctx left [] = []
places ctx left (Plain b ∷ more) = record { ctx = ctx; left = left; wanted = b } ∷ places ctx left more
places ctx left (Fun ps r ∷ more) = record { ctx = ctx ++ ps ∷ []; left = less_one left; wanted = r } ∷ places ctx left more

-- how many binders the arguments have
unfoldable pub binders : List Arg → ℕ
binders [] = 0
binders (Plain b ∷ more) = binders more
binders (Fun ps r ∷ more) = length ps + binders more

-- a value, where the test holds
abbrev pub some_when : {X : Type 0} → Bool → X → Option X
some_when true x = Some x
some_when false x = None

-- the next step, where there was one
abbrev pub and_then : {X Y : Type 0} → Option X → (X → Option Y) → Option Y
and_then None f = None
and_then (Some x) f = f x

-- a variable at a place: what it weighs there with its coercion
abbrev pub variable_at : Parts → Place → Option ℕ → Option Reading
variable_at g p None = None
variable_at g p (Some t) = some_when (is_below g t p.wanted) (record { weight = variable_weight g + step_in g (Some t) p.wanted; open_places = [] })

-- a declaration at a place: what it weighs there with its binders and its coercion, and the places that it opens
abbrev pub declared_at : Parts → Place → Option Decl → Option Reading
declared_at g p None = None
declared_at g p (Some d) = some_when (is_below g d.result p.wanted && has_room p.left d.args) (record { weight = d.weight + binders_weight g (binders d.args) + step_in g (Some d.result) p.wanted; open_places = places p.ctx p.left d.args })

-- a head at a place
abbrev pub turn_by : Parts → Place → Symbol → Option Reading
turn_by g p (variable n) = variable_at g p (slice_get (joined p.ctx) n)
turn_by g p (declared d) = declared_at g p (slice_get g.decls d)

-- a number of a code at a place: None where it can't stand there
unfoldable pub turn : Parts → Place → ℕ → Option Reading
turn g p n = turn_by g p (symbol n)

-- reading a list of numbers at the open places, None where one of them can't stand
unfoldable pub read : Parts → ℕ → List Place → List ℕ → Option Reading
read g w stack [] = Some (record { weight = w; open_places = stack })
read g w [] (n ∷ ns) = None
read g w (p ∷ rest) (n ∷ ns) = and_then (turn g p n) (λ t. read g (w + t.weight) (t.open_places ++ rest) ns)

-- a term for each place
abbrev pub fit_all : Parts → List Place → List Expr → Bool
fit_all g [] [] = true
fit_all g (p ∷ ps) (e ∷ es) = fits_place g p e && fit_all g ps es
fit_all g _ _ = false

-- the terms for the places together
abbrev pub weigh_all : Parts → List Place → List Expr → ℕ
weigh_all g (p ∷ ps) (e ∷ es) = weigh g p e + weigh_all g ps es
weigh_all g _ _ = 0
