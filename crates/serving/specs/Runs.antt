-- What a run of `list` reads and writes, and the status that a run over a sheet answers.
use Rattle.std.specs.Prelude.{◌≡◌, ◌⊎◌, ℕ, List, [], ◌∷◌, ◌++◌, Option, decimal, take}
use Rattle.std.specs.List.{flat_map}
use Rattle.std.specs.Io.KnownBytes.{Appends}
use Rattle.outside.specs.Gathered.{Gathered, WrotePrefix}
use Rattle.listing.specs.declared.item.Item.{Item}
use Rattle.terms.specs.Expr.{Expr}
use Rattle.terms.specs.Place.{total_of}
use Rattle.terms.specs.Text.{text_of}
use Rattle.terms.specs.Listing.{IsFront, IsWhole}
use Rattle.terms.specs.declared.parts.Parts.{Parts}
use Rattle.command_line.specs.Words.{AskFor, list, upgrade}
use Rattle.sheet_runs.specs.Runs.{EndsOver}
use Rattle.statuses.specs.declared.status.Status.{Status}
use Rattle.sheet_runs.specs.declared.ending.Ending.{Ending}
use Rattle.sheet_runs.specs.declared.ending.Ending.TheVariants.{Whole, NotSheet, ReadFault, WriteFault, OutOfMemory}

-- the words ask for a run over a sheet
abbrev pub AskForSheet : List (List ℕ) → Type 0
AskForSheet words = AskFor list words ⊎ AskFor upgrade words

-- the line of a term: its total in decimal, a space, its Java text, and a line feed
abbrev pub line_text : Parts → Expr → List ℕ
line_text g e = decimal (total_of g e) ++ 32 ∷ text_of g e ++ 10 ∷ []

-- the lines of some terms
abbrev pub list_text : Parts → List Expr → List ℕ
list_text g es = flat_map (line_text g) es

-- the line of an item, and the lines of some
abbrev pub item_text : Item → List ℕ
item_text i = decimal i.weight ++ 32 ∷ i.text ++ 10 ∷ []

abbrev pub items_text : List Item → List ℕ
items_text is = flat_map item_text is

-- the whole list was written, and nothing else
pub record HasWritten (g : Parts) (written written' : Option (List ℕ)) : Type 0 where
  pub list : List Expr
  pub whole : IsWhole g list
  pub wrote : Appends written written' (list_text g list)

-- the first terms of the list were given out, so many of them, and their lines went through the gathering
pub record HasGiven (g : Parts) (from : ℕ) (written written' : Option (List ℕ)) (held held' : List ℕ) : Type 0 where
  pub given : List Expr
  pub prefix : (list : List Expr) → IsWhole g list → given ≡ take from list
  pub gathered : (start : Option (List ℕ)) (all : List ℕ) → Gathered start written held all → Gathered start written' held' (all ++ list_text g given)

-- first bytes of the lines of a prefix of the list were written and nothing else
pub record HasBegun (g : Parts) (written written' : Option (List ℕ)) : Type 0 where
  pub list : List Expr
  pub front : IsFront g list
  pub wrote : WrotePrefix written written' (list_text g list)

-- how a run of `list` ended: the whole list was written, or a prefix of it
abbrev pub EndsBy : Ending → Option (List ℕ) → Option (List ℕ) → Option (List ℕ) → Option (List ℕ) → ℕ → ℕ → ℕ → ℕ → Type 0
EndsBy ending left left' written written' s s' k k' =
    EndsOver (λ g. HasWritten g written written') (λ g. HasBegun g written written') ending left left' written written' s s' k k'

-- the status of an ending
unfoldable pub status_of : Ending → Status
status_of Whole = record { code = 0; end = 0; place = 0; cause = 0 }
status_of (NotSheet line cause) = record { code = 3; end = 0; place = line; cause = cause }
status_of ReadFault = record { code = 4; end = 0; place = 0; cause = 0 }
status_of WriteFault = record { code = 5; end = 0; place = 0; cause = 0 }
status_of OutOfMemory = record { code = 6; end = 0; place = 0; cause = 0 }
