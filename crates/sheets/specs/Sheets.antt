-- A sheet: the environment that its lines say, and its first fault. A line is judged by the lines before it.
use Rattle.std.specs.Prelude.{◌≡◌, ℕ, ◌+◌, Bool, true, false, ◌==◌, ◌&&◌, not, nat_le, List, [], ◌∷◌, ◌++◌, map, length, take, drop, if◌then◌else◌, codes, bytes_eq, Option, Some, None, option_map, is_some, unwrap_or, get_or, option_and_then}
use Rattle.std.specs.List.{flat_map, list_all, find}
use Rattle.std.specs.Prelude.{count_by}
use Rattle.std.specs.Str.{is_utf8}
use Rattle.std.specs.Str.Lossy.{utf8_valid_len}
use Rattle.std.specs.Str.Lines.{lines}
use Rattle.sheets.specs.Words.{word, is_number, number, has, index_of}
use Rattle.sheets.specs.SheetLines.{Line, blank, other, type_line, sub_line, decl_line, goal_line, number_line, binder_line, DeclWords, line_of, version_of}
use Rattle.sheets.specs.declared.kind.FormWord.{FormWord}
use Rattle.sheets.specs.declared.kind.FormWord.TheVariants as word_of
use Rattle.sheets.specs.declared.kind.NumberWord.{NumberWord}
use Rattle.sheets.specs.declared.kind.NumberWord.TheVariants as number_word
use Rattle.sheets.specs.declared.kind.Version.{Version}
use Rattle.sheets.specs.declared.kind.Version.TheVariants.{One}
use Rattle.sheets.specs.declared.number_lines.NumberLine.{NumberLine}
use Rattle.terms.specs.Weights.{usual_steps}
use Rattle.terms.specs.declared.parts.Arg.{Arg}
use Rattle.terms.specs.declared.parts.Arg.TheVariants.{Plain, Fun}
use Rattle.terms.specs.declared.parts.Decl.{Decl}
use Rattle.terms.specs.declared.parts.Form.{Form}
use Rattle.terms.specs.declared.parts.Form.TheVariants.{Name, This, Call, New, Method, Field, Lambda}
use Rattle.terms.specs.declared.parts.Parts.{Parts}
use Rattle.terms.specs.declared.parts.Steps.{Steps}
use Rattle.terms.specs.declared.fault.EnvFault.{EnvFault}
use Rattle.terms.specs.declared.fault.EnvFault.TheVariants.{TypeRange, PairRange, PairTwice, Weight, Limit, NotTransitive, Depth, Step, OutOfMemory}
use Rattle.terms.specs.declared.fault.EnvFault.TheVariants as fault
use Rattle.terms.specs.Faults.{first_env_fault}

-- what each line adds
abbrev pub type_in : Line → List (List ℕ)
type_in (type_line t) = t ∷ []
type_in _ = []

abbrev pub goal_in : Line → List (List ℕ)
goal_in (goal_line t) = t ∷ []
goal_in _ = []

abbrev pub binder_in : Line → List (List ℕ)
binder_in (binder_line t) = t ∷ []
binder_in _ = []

abbrev pub types_of : List Line → List (List ℕ)
types_of ls = flat_map type_in ls

abbrev pub goals_of : List Line → List (List ℕ)
goals_of ls = flat_map goal_in ls

abbrev pub binders_of : List Line → List (List ℕ)
binders_of ls = flat_map binder_in ls

-- the lines with a number, each with its value and its place, where the first of all lines is line n
abbrev pub number_at : ℕ → Line → List NumberLine
number_at n (number_line w t) = record { word = w; value = number t; line = n } ∷ []
number_at n _ = []

unfoldable pub numbers_from : ℕ → List Line → List NumberLine
numbers_from n [] = []
numbers_from n (l ∷ ls) = number_at n l ++ numbers_from (n + 1) ls

abbrev pub numbers_of : List Line → List NumberLine
numbers_of ls = numbers_from 2 ls

-- whether two words are the same one
unfoldable pub is_same : NumberWord → NumberWord → Bool
is_same number_word.Limit number_word.Limit = true
is_same number_word.Depth number_word.Depth = true
is_same number_word.Bound number_word.Bound = true
is_same number_word.Binding number_word.Binding = true
is_same number_word.Step number_word.Step = true
is_same _ _ = false

-- the first line of this word, where there is one
abbrev pub told_number : NumberWord → List NumberLine → Option NumberLine
told_number w ns = find (λ n. is_same w n.word) ns

-- the number of an environment for which no line says it
abbrev pub usual : NumberWord → ℕ
usual number_word.Limit = 4000
usual number_word.Depth = 1
usual number_word.Bound = usual_steps.bound
usual number_word.Binding = usual_steps.binder
usual number_word.Step = usual_steps.step

-- what the line of this word says, the usual number where there is none
abbrev pub value_of : NumberWord → List NumberLine → ℕ
value_of w ns = unwrap_or (option_map (λ n. n.value) (told_number w ns)) (usual w)

-- where it stands, 0 where there is none
abbrev pub line_with : NumberWord → List NumberLine → ℕ
line_with w ns = unwrap_or (option_map (λ n. n.line) (told_number w ns)) 0

-- the three weights that belong to no declaration, as these lines say them
abbrev pub steps_of : List NumberLine → Steps
steps_of ns = record {
  bound = value_of number_word.Bound ns;
  binder = value_of number_word.Binding ns;
  step = value_of number_word.Step ns;
}

-- a pair of types, by their numbers
abbrev pub pair_in : List (List ℕ) → Line → List (ℕ × ℕ)
pair_in ts (sub_line a b) = (index_of ts a, index_of ts b) ∷ []
pair_in ts _ = []

-- how a declaration is written in Java
unfoldable pub form_of : FormWord → List ℕ → Form
form_of word_of.Name s = Name s
form_of word_of.This s = This
form_of word_of.Call s = Call s
form_of word_of.New s = New s
form_of word_of.Method s = Method s
form_of word_of.Field s = Field s false
form_of word_of.HiddenField s = Field s true
form_of word_of.Lambda s = Lambda s

-- what a declaration wants: one lambda where it has a body's type, else a value of each type
abbrev pub wanted : List (List ℕ) → List (List ℕ) → List (List ℕ) → List Arg
wanted ts args [] = map (λ a. Plain (index_of ts a)) args
wanted ts args (b ∷ bs) = Fun (map (index_of ts) args) (index_of ts b) ∷ []

abbrev pub decl_of : List (List ℕ) → DeclWords → Decl
decl_of ts d = record { args = wanted ts d.args d.body; result = index_of ts d.result; weight = number d.weight; crowded = d.crowded; form = form_of d.form d.name }

abbrev pub decl_in : List (List ℕ) → Line → List Decl
decl_in ts (decl_line d) = decl_of ts d ∷ []
decl_in ts _ = []

-- the first of some, where there is one
abbrev pub first : List (List ℕ) → Option (List ℕ)
first [] = None
first (x ∷ xs) = Some x

-- the parts that these lines say: without their lines the limit is 4,000, the depth 1, the binder `p`, and a variable, a
-- binder and a coercion weigh what they usually do
abbrev pub parts_of : List Line → Parts
parts_of ls = record {
  types = types_of ls;
  pairs = flat_map (pair_in (types_of ls)) ls;
  decls = flat_map (decl_in (types_of ls)) ls;
  goal = unwrap_or (option_map (index_of (types_of ls)) (first (goals_of ls))) 0;
  limit = value_of number_word.Limit (numbers_of ls);
  depth = value_of number_word.Depth (numbers_of ls);
  binder = unwrap_or (first (binders_of ls)) (codes "p");
  steps = steps_of (numbers_of ls);
}

-- the number of a cause: 3 no line of the table, 4 no number of one to nine digits, 5 a type that isn't declared before,
-- 6 a type that is, 7 a second goal, binder or line of the same number; the first of them in this order
unfoldable pub number_cause : Bool → Option ℕ → Option ℕ
number_cause true later = later
number_cause false later = Some 4

unfoldable pub type_cause : Bool → Option ℕ → Option ℕ
type_cause true later = later
type_cause false later = Some 5

unfoldable pub once_cause : ℕ → Bool → Option ℕ
once_cause n true = Some n
once_cause n false = None

-- which lines that stand once stand before a line
pub record Seen : Type 0 where
  pub goal : Bool
  pub numbers : List NumberLine
  pub binder : Bool

-- all types that a declaration names are declared
abbrev pub has_all : List (List ℕ) → DeclWords → Bool
has_all ts d = has ts d.result && (list_all (has ts) d.args && list_all (has ts) d.body)

-- the cause at a line, by the types before it and the lines that stand once
unfoldable pub cause : List (List ℕ) → Seen → Line → Option ℕ
cause ts seen blank = None
cause ts seen other = Some 3
cause ts seen (type_line t) = once_cause 6 (has ts t)
cause ts seen (sub_line a b) = type_cause (has ts a && has ts b) None
cause ts seen (decl_line d) = number_cause (is_number d.weight) (type_cause (has_all ts d) None)
cause ts seen (goal_line t) = type_cause (has ts t) (once_cause 7 seen.goal)
cause ts seen (number_line w t) = number_cause (is_number t) (once_cause 7 (is_some (told_number w seen.numbers)))
cause ts seen (binder_line t) = once_cause 7 seen.binder

abbrev pub told : List (List ℕ) → Bool
told [] = false
told (x ∷ xs) = true

abbrev pub seen_in : List Line → Seen
seen_in ls = record { goal = told (goals_of ls); numbers = numbers_of ls; binder = told (binders_of ls) }

abbrev pub cause_after : List Line → Line → Option ℕ
cause_after before l = cause (types_of before) (seen_in before) l

-- a fault: the line, from 1, and the number of the cause
pub record Fault : Type 0 where
  pub line : ℕ
  pub cause : ℕ

unfoldable pub or_later : Option ℕ → ℕ → Option Fault → Option Fault
or_later None n later = later
or_later (Some c) n later = Some (record { line = n; cause = c })

-- there is no goal
unfoldable pub no_goal : Bool → ℕ → Option Fault
no_goal true n = None
no_goal false n = Some (record { line = n; cause = 8 })

-- the first fault by line, where some lines stand before line n
unfoldable pub first_fault : ℕ → List Line → List Line → Option Fault
first_fault n before [] = no_goal (told (goals_of before)) n
first_fault n before (l ∷ ls) = or_later (cause_after before l) n (first_fault (n + 1) (before ++ l ∷ []) ls)

-- the lines after the first, which says the version
abbrev pub body_of : List (List ℕ) → List Line
body_of ls = map (line_of (unwrap_or (version_of (word ls 0)) One)) (drop 1 ls)

-- the first fault of a text's lines, but for those of the environment; 2 is the cause of a wrong first line
unfoldable pub lines_fault : List (List ℕ) → Option Fault
lines_fault ls = if is_some (version_of (word ls 0)) then first_fault 2 [] (body_of ls) else Some (record { line = 1; cause = 2 })

-- the first fault of a sheet's bytes, but for those of the environment: 9 above 16,777,216 bytes, 1 not UTF-8, at the line of
-- the first bad byte
unfoldable pub text_fault : List ℕ → Option Fault
text_fault bytes =
    if not (nat_le (length bytes) 16777216) then Some (record { line = 0; cause = 9 })
    else if not (is_utf8 bytes) then Some (record { line = count_by (λ b. b == 10) (take (utf8_valid_len bytes) bytes) + 1; cause = 1 })
    else lines_fault (lines bytes)

-- the numbers of the lines that pass a test, where the first of them is line n
unfoldable pub places_where : (Line → Bool) → ℕ → List Line → List ℕ
places_where p n [] = []
places_where p n (l ∷ ls) = if p l then n ∷ places_where p (n + 1) ls else places_where p (n + 1) ls

unfoldable pub is_sub : Line → Bool
is_sub (sub_line a b) = true
is_sub _ = false

unfoldable pub is_decl : Line → Bool
is_decl (decl_line d) = true
is_decl _ = false

-- the n-th of some numbers
abbrev pub nth : List ℕ → ℕ → ℕ
nth ns n = get_or ns n 0

-- which of the three weights that belong to no declaration has this number
abbrev pub step_word : ℕ → NumberWord
step_word i = if i == 1 then number_word.Bound else if i == 2 then number_word.Binding else number_word.Step

-- the line of a fault of the environment, and its number and ten; a gap in transitivity is at no line, so it has the number after the last
unfoldable pub env_fault_at : List Line → EnvFault → Option Fault
env_fault_at ls (TypeRange i) = Some (record { line = nth (places_where is_decl 2 ls) i; cause = 11 })
env_fault_at ls (PairRange i) = Some (record { line = nth (places_where is_sub 2 ls) i; cause = 12 })
env_fault_at ls (PairTwice i) = Some (record { line = nth (places_where is_sub 2 ls) i; cause = 13 })
env_fault_at ls (Weight i) = Some (record { line = nth (places_where is_decl 2 ls) i; cause = 14 })
env_fault_at ls (Limit n) = Some (record { line = line_with number_word.Limit (numbers_of ls); cause = 15 })
env_fault_at ls (NotTransitive a b c) = Some (record { line = length ls + 2; cause = 16 })
env_fault_at ls (Depth n) = Some (record { line = line_with number_word.Depth (numbers_of ls); cause = 17 })
env_fault_at ls (fault.Form i) = Some (record { line = nth (places_where is_decl 2 ls) i; cause = 18 })
env_fault_at ls (Step i) = Some (record { line = line_with (step_word i) (numbers_of ls); cause = 19 })
env_fault_at ls OutOfMemory = None

-- the first fault of the parts that these lines say
unfoldable pub parts_fault : List Line → Option Fault
parts_fault ls = option_and_then (env_fault_at ls) (first_env_fault (parts_of ls))

-- the first of two faults
unfoldable pub fault_or : Option Fault → Option Fault → Option Fault
fault_or (Some f) later = Some f
fault_or None later = later

-- the first fault of a sheet; those of the environment come where there is no other
unfoldable pub sheet_fault : List ℕ → Option Fault
sheet_fault bytes = fault_or (text_fault bytes) (parts_fault (body_of (lines bytes)))

-- the bytes are a sheet, and these are the parts of its environment
pub record IsSheet (bytes : List ℕ) (parts : Parts) : Type 0 where
  pub faultless : sheet_fault bytes ≡ None
  pub says : parts ≡ parts_of (body_of (lines bytes))
