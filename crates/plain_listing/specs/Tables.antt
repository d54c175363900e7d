-- The tables of the code, and what it means that they are right.
use Rattle.std.specs.Prelude.{◌≡◌, ℕ, ◌+◌, ◌<◌, nat_lt, ◌==◌, ◌&&◌, if◌then◌else◌, Bool, true, false, bytes_eq, List, [], ◌∷◌, ◌++◌, length, map, slice_get, Option, None, Some}
use Rattle.terms.specs.Typing.{joined}
use Rattle.terms.specs.Expr.{Expr}
use Rattle.terms.specs.View.{expr}
use Rattle.terms.specs.Count.{expr_eq, once_if, count}
use Rattle.terms.specs.Place.{Place, fits_place, weigh}
use Rattle.terms.specs.declared.term.Term.{Term}
use Rattle.terms.specs.declared.parts.Parts.{Parts}
use Rattle.plain_listing.specs.Generate.{Table, Inner, made}

-- the terms of a list of the code, and none where there is no list
abbrev pub listed : Option (List Term) → List Expr
listed None = []
listed (Some terms) = map expr terms

-- the terms for a wanted type, of the lists by type
abbrev pub for_type : Option (List (List Term)) → ℕ → List Expr
for_type None b = []
for_type (Some column) b = listed (slice_get column b)

-- the terms for a wanted type in a context, of the lists by context and type
abbrev pub in_context : Option (List (List (List Term))) → ℕ → ℕ → List Expr
in_context None c b = []
in_context (Some row) c b = for_type (slice_get row c) b

-- the table of context c
abbrev pub at : List (List (List (List Term))) → ℕ → Table
at rows c k b = in_context (slice_get rows k) c b

-- whether two contexts have the same rows
unfoldable pub same_rows : List (List ℕ) → List (List ℕ) → Bool
same_rows [] [] = true
same_rows (x ∷ xs) (y ∷ ys) = bytes_eq x y && same_rows xs ys
same_rows [] (y ∷ ys) = false
same_rows (x ∷ xs) [] = false

-- the first number, counted from n, at which the context stands
unfoldable pub number_from : ℕ → List (List (List ℕ)) → List (List ℕ) → Option ℕ
number_from n [] ctx = None
number_from n (c ∷ more) ctx = if same_rows c ctx then Some n else number_from (n + 1) more ctx

-- the number of a context
abbrev pub number_of : List (List (List ℕ)) → List (List ℕ) → Option ℕ
number_of contexts ctx = number_from 0 contexts ctx

-- the number of the context of a lambda's body, where the lambda may stand in a context
abbrev pub number_under : List (List (List ℕ)) → ℕ → List (List ℕ) → List ℕ → Option ℕ
number_under contexts depth ctx ps = if nat_lt (length ctx) depth then number_of contexts (ctx ++ ps ∷ []) else None

-- the table of a numbered context
abbrev pub by_number : Option ℕ → List (List (List (List Term))) → Table
by_number None rows k b = []
by_number (Some n) rows k b = at rows n k b

-- the tables under one lambda more
abbrev pub under : List (List (List ℕ)) → List (List (List (List Term))) → ℕ → List (List ℕ) → Inner
under contexts rows depth ctx ps = by_number (number_under contexts depth ctx ps) rows

-- the term may stand at the place and weighs k there
abbrev pub stands : Parts → Place → ℕ → Expr → Bool
stands g p k e = fits_place g p e && (weigh g p e == k)

-- below the limit each term that may stand in the context is listed at its weight and type once, and no other
abbrev pub IsRight : Parts → List (List ℕ) → ℕ → Table → ℕ → Type 0
IsRight g ctx left here limit = (k b : ℕ) → k < limit → b < length g.types → (e : Expr) → count (expr_eq e) (here k b) ≡ once_if (stands g (record { ctx = ctx; left = left; wanted = b }) k e)

-- so in each context, with as many lambdas left as its rows leave
abbrev pub AreRight : Parts → ℕ → List (List (List ℕ)) → List (List (List (List Term))) → ℕ → Type 0
AreRight g depth contexts rows limit = (n left : ℕ) (ctx : List (List ℕ)) → slice_get contexts n ≡ Some ctx → length ctx + left ≡ depth → IsRight g ctx left (at rows n) limit

-- one weight's terms for each type, in the context of this number
abbrev pub IsColumn : Parts → ℕ → List (List (List ℕ)) → List (List (List (List Term))) → List (List Term) → ℕ → List (List ℕ) → Type 0
IsColumn g depth contexts rows column n ctx = (b : ℕ) → b < length g.types → listed (slice_get column b) ≡ made g (joined ctx) (at rows n) (under contexts rows depth ctx) (length rows) b

-- one weight's lists, in the first n contexts
pub record IsRow (g : Parts) (depth : ℕ) (contexts : List (List (List ℕ))) (rows : List (List (List (List Term)))) (row : List (List (List Term))) (n : ℕ) : Type 0 where
  pub long : length row ≡ n
  pub each : (m : ℕ) (ctx : List (List ℕ)) → m < n → slice_get contexts m ≡ Some ctx → (b : ℕ) → b < length g.types → for_type (slice_get row m) b ≡ made g (joined ctx) (at rows m) (under contexts rows depth ctx) (length rows) b
