-- What an explanation rests on: an item of a list, and floors.
use Rattle.std.specs.Prelude.{◌≡◌, ℕ, List, [], ◌∷◌, Option, slice_get}
use Rattle.serde_json.specs.Data.{Data}
use Rattle.terms.specs.declared.parts.Parts.{Parts}
use Rattle.terms.specs.Expr.{Expr}
use Rattle.terms.specs.Listing.{IsWhole}
use Rattle.terms.specs.Place.{total_of}
use Rattle.checker.specs.declared.floor.Floor.{Floor}
use Rattle.checker.specs.Rows.{rows_of}
use Rattle.checker.specs.Floors.{FloorsHold}
use Rattle.certificates.specs.Floors.{first_total}
use Rattle.lsp_forms.specs.Certificates.{rows_answer, floors_answer}

-- Why a term weighs what it does, by its rows; or why no term weighs less than the first, by floors.
pub data Certificate : Type 0 where
  spelled : (term : Expr) → Certificate
  bounded : (floors : List Floor) → Certificate

-- The item of a number, counted from 0 over the whole list, or none where the list ends before it.
abbrev pub IsItemAt : Parts → ℕ → Option Expr → Type 0
IsItemAt g i term = (ws : List Expr) → IsWhole g ws → term ≡ slice_get ws i

-- Floors that hold, the first of which is the total of the list's first term, and more than any total where there is none.
pub record AreFloorsOf (g : Parts) (floors : List Floor) : Type 0 where
  pub least : ℕ
  pub hold : FloorsHold g floors least
  pub first : (ws : List Expr) → IsWhole g ws → least ≡ first_total g ws

-- The first floor.
abbrev pub first_floor : List Floor → ℕ
first_floor [] = 0
first_floor (f ∷ fs) = f.floor

-- A certificate as it is answered: the rows of the term with its total, or the floors with the first of them.
abbrev pub certificate_data : Parts → Certificate → Data
certificate_data g (spelled term) = rows_answer (rows_of g [] term) (total_of g term)
certificate_data g (bounded floors) = floors_answer floors (first_floor floors)
