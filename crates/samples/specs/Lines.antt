-- What is told of a sample, in six lines.
use Rattle.std.specs.Prelude.{◌≡◌, ℕ, ◌-◌, Bool, true, false, List, ◌++◌, length, codes, decimal, sum_by, slice_get, Option, Some, None}
use Rattle.std.specs.Io.KnownBytes.{Appends}
use Rattle.outside.specs.Gathered.{WrotePrefix}
use Rattle.listing.specs.declared.item.Item.{Item}
use Rattle.terms.specs.declared.parts.Parts.{Parts}
use Rattle.answers.specs.declared.types.Page.{Page}
use Rattle.answers.specs.Cursors.{IsPageOf}
use Rattle.workload.specs.Samples.{sample_of}
use Rattle.samples.specs.Samples.{publication_of, history_of, hole_of, goal_of, IsLawful, HasEnvironment}

abbrev pub yes_or_no : Bool → List ℕ
yes_or_no true = codes "yes"
yes_or_no false = codes "no"

-- The weight of an item, 0 where there is none.
abbrev pub weight_of : Option Item → ℕ
weight_of None = 0
weight_of (Some item) = item.weight

-- The weights of the first and of the last item.
abbrev pub first_weight : List Item → ℕ
first_weight items = weight_of (slice_get items 0)

abbrev pub last_weight : List Item → ℕ
last_weight items = weight_of (slice_get items (length items - 1))

-- The length of an item's text, in bytes.
abbrev pub text_length : Item → ℕ
text_length item = length item.text

-- Four lines: how many items there are, whether the list ends with them, the weights of the first and the last, and how long their
-- texts are together.
abbrev pub page_lines : List Item → Bool → List ℕ
page_lines items last =
    codes "items " ++ (decimal (length items)
    ++ (codes "\nlast " ++ (yes_or_no last
    ++ (codes "\nweights " ++ (decimal (first_weight items) ++ (codes " " ++ (decimal (last_weight items)
    ++ (codes "\nbytes " ++ (decimal (sum_by text_length items) ++ codes "\n")))))))))

-- Before them two: how many classes there are, and the class that is wanted.
abbrev pub six_lines : ℕ → ℕ → Page → List ℕ
six_lines classes goal page =
    codes "classes " ++ (decimal classes
    ++ (codes "\ngoal C" ++ (decimal goal
    ++ (codes "\n" ++ page_lines page.items page.last))))

-- The four lines of the first page of an environment's list: its first 100 items, or as many as there are.
pub record ArePageLines (env : Parts) (lines : List ℕ) : Type 0 where
  pub page : Page
  pub first : IsPageOf env 0 100 page
  pub told : lines ≡ page_lines page.items page.last

-- The six lines of the sample of a number: its classes are put in by one change, which nothing refuses, and the page has the first
-- 100 items of the list at its hole, or as many as there are.
pub record AreLinesOf (n : ℕ) (lines : List ℕ) : Type 0 where
  pub env : Parts
  pub page : Page
  pub lawful : IsLawful (publication_of (sample_of n).classes)
  pub place : HasEnvironment (history_of (sample_of n).classes) (hole_of (sample_of n)) env
  pub first : IsPageOf env 0 100 page
  pub told : lines ≡ six_lines (length (sample_of n).classes) (goal_of n) page

-- The six lines of a sample were written, and nothing else.
pub record HasWritten (n : ℕ) (written written' : Option (List ℕ)) : Type 0 where
  pub lines : List ℕ
  pub are : AreLinesOf n lines
  pub wrote : Appends written written' lines

-- A prefix of them was written, and nothing else.
pub record HasBegun (n : ℕ) (written written' : Option (List ℕ)) : Type 0 where
  pub lines : List ℕ
  pub are : AreLinesOf n lines
  pub wrote : WrotePrefix written written' lines
