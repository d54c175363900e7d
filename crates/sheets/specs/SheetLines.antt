-- The lines of a sheet, each by itself.
use Rattle.std.specs.Prelude.{ℕ, ◌-◌, Bool, true, false, ◌==◌, not, nat_le, List, [], ◌∷◌, length, take, drop, if◌then◌else◌, codes, bytes_eq, Option, Some, None}
use Rattle.std.specs.List.{list_all}
use Rattle.sheets.specs.Words.{word, words_of, is_word}
use Rattle.sheets.specs.declared.kind.FormWord.{FormWord}
use Rattle.sheets.specs.declared.kind.FormWord.TheVariants.{Name, This, Call, New, Method, Field, HiddenField, Lambda}
use Rattle.sheets.specs.declared.kind.NumberWord.{NumberWord}
use Rattle.sheets.specs.declared.kind.NumberWord.TheVariants.{Limit, Depth, Bound, Binding, Step}
use Rattle.sheets.specs.declared.kind.Version.{Version}
use Rattle.sheets.specs.declared.kind.Version.TheVariants.{One, Two}
use Rattle.sheets.specs.declared.kind.Kind.{Kind}
use Rattle.sheets.specs.declared.kind.Kind.TheVariants as kind

-- the version that a sheet's first line says; no other line may be the first
unfoldable pub version_of : List ℕ → Option Version
version_of line =
    if bytes_eq line (codes "insynth sheet 1") then Some One
    else if bytes_eq line (codes "insynth sheet 2") then Some Two
    else None

-- an empty line, or one that begins with `#`
unfoldable pub is_skipped : List ℕ → Bool
is_skipped [] = true
is_skipped (b ∷ bs) = b == 35

-- a line of so many words of this kind, else no line of the table
abbrev pub of_length : ℕ → List (List ℕ) → Kind → Kind
of_length n ws k = if length ws == n then k else kind.Other

-- a declaration of so many words or more, else no line of the table
abbrev pub of_decl : Bool → ℕ → List (List ℕ) → FormWord → Kind
of_decl crowded n ws f = if nat_le n (length ws) then kind.Decl crowded f else kind.Other

-- a declaration by its form: `decl W R FORM S A..`, `this` without S, `lambda S A.. -> R`
unfoldable pub decl_kind : Bool → List (List ℕ) → Kind
decl_kind crowded ws =
    if bytes_eq (word ws 3) (codes "name") then of_decl crowded 5 ws Name
    else if bytes_eq (word ws 3) (codes "call") then of_decl crowded 5 ws Call
    else if bytes_eq (word ws 3) (codes "new") then of_decl crowded 5 ws New
    else if bytes_eq (word ws 3) (codes "method") then of_decl crowded 5 ws Method
    else if bytes_eq (word ws 3) (codes "field") then of_decl crowded 5 ws Field
    else if bytes_eq (word ws 3) (codes "hidden-field") then of_decl crowded 5 ws HiddenField
    else if bytes_eq (word ws 3) (codes "this") then of_decl crowded 4 ws This
    else if bytes_eq (word ws 3) (codes "lambda") then
    (if bytes_eq (word ws (length ws - 2)) (codes "->") then of_decl crowded 7 ws Lambda else kind.Other)
    else kind.Other

-- a line with a number that no sheet 1 has
unfoldable pub of_newer : Version → List (List ℕ) → NumberWord → Kind
of_newer One ws w = kind.Other
of_newer Two ws w = of_length 2 ws (kind.Number w)

-- the kind of a line by its words, in a sheet of this version
unfoldable pub kind_by : Version → List (List ℕ) → Kind
kind_by v ws =
    if not (list_all is_word ws) then kind.Other
    else if bytes_eq (word ws 0) (codes "type") then of_length 2 ws kind.Type
    else if bytes_eq (word ws 0) (codes "sub") then of_length 3 ws kind.Sub
    else if bytes_eq (word ws 0) (codes "decl") then decl_kind false ws
    else if bytes_eq (word ws 0) (codes "crowded") then decl_kind true ws
    else if bytes_eq (word ws 0) (codes "goal") then of_length 2 ws kind.Goal
    else if bytes_eq (word ws 0) (codes "limit") then of_length 2 ws (kind.Number Limit)
    else if bytes_eq (word ws 0) (codes "depth") then of_length 2 ws (kind.Number Depth)
    else if bytes_eq (word ws 0) (codes "binder") then of_length 2 ws kind.Binder
    else if bytes_eq (word ws 0) (codes "bound") then of_newer v ws Bound
    else if bytes_eq (word ws 0) (codes "binding") then of_newer v ws Binding
    else if bytes_eq (word ws 0) (codes "step") then of_newer v ws Step
    else kind.Other

-- the kind of a line, in a sheet of this version
unfoldable pub kind_of : Version → List ℕ → Kind
kind_of v line = if is_skipped line then kind.Blank else kind_by v (words_of line)

-- the words of a declaration: what it weighs, gives and wants; `body` has the result type of a lambda's body. `this` uses no name
pub record DeclWords : Type 0 where
  pub crowded : Bool
  pub weight : List ℕ
  pub result : List ℕ
  pub form : FormWord
  pub name : List ℕ
  pub args : List (List ℕ)
  pub body : List (List ℕ)

-- what a line says
pub data Line : Type 0 where
  blank : Line
  other : Line
  type_line : List ℕ → Line
  sub_line : List ℕ → List ℕ → Line
  decl_line : DeclWords → Line
  goal_line : List ℕ → Line
  number_line : NumberWord → List ℕ → Line
  binder_line : List ℕ → Line

-- the form without a name, and the form whose arguments are a lambda's
unfoldable pub is_this : FormWord → Bool
is_this This = true
is_this _ = false

unfoldable pub is_lambda : FormWord → Bool
is_lambda Lambda = true
is_lambda _ = false

-- the words after the name; of a lambda those before the `->`
unfoldable pub args_in : FormWord → List (List ℕ) → List (List ℕ)
args_in f ws = if is_lambda f then take (length ws - 7) (drop 5 ws) else if is_this f then drop 4 ws else drop 5 ws

-- of a lambda the word after the `->`
unfoldable pub body_in : FormWord → List (List ℕ) → List (List ℕ)
body_in f ws = if is_lambda f then word ws (length ws - 1) ∷ [] else []

abbrev pub decl_words : Bool → FormWord → List (List ℕ) → DeclWords
decl_words crowded f ws = record { crowded = crowded; weight = word ws 1; result = word ws 2; form = f; name = word ws 4; args = args_in f ws; body = body_in f ws }

-- a line by its kind and its words
unfoldable pub line_by : Kind → List (List ℕ) → Line
line_by kind.Blank ws = blank
line_by kind.Other ws = other
line_by kind.Type ws = type_line (word ws 1)
line_by kind.Sub ws = sub_line (word ws 1) (word ws 2)
line_by (kind.Decl crowded f) ws = decl_line (decl_words crowded f ws)
line_by kind.Goal ws = goal_line (word ws 1)
line_by (kind.Number w) ws = number_line w (word ws 1)
line_by kind.Binder ws = binder_line (word ws 1)

-- what a line says, in a sheet of this version
abbrev pub line_of : Version → List ℕ → Line
line_of v line = line_by (kind_of v line) (words_of line)
