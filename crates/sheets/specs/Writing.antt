-- The text of a sheet: an environment in the newest form, and when that text says it again.
use Rattle.std.specs.Prelude.{◌≡◌, ℕ, ◌<◌, Bool, true, false, ◌==◌, ◌&&◌, not, List, [], ◌∷◌, ◌++◌, map, length, get_or, if◌then◌else◌, codes, decimal, Option, Some}
use Rattle.std.specs.List.{flat_map, list_all}
use Rattle.name_places.specs.Places.{place_of}
use Rattle.sheets.specs.Words.{is_word}
use Rattle.sheets.specs.declared.kind.NumberWord.{NumberWord}
use Rattle.sheets.specs.declared.kind.NumberWord.TheVariants.{Limit, Depth, Bound, Binding, Step}
use Rattle.terms.specs.declared.parts.Arg.{Arg}
use Rattle.terms.specs.declared.parts.Arg.TheVariants.{Plain, Fun}
use Rattle.terms.specs.declared.parts.Decl.{Decl}
use Rattle.terms.specs.declared.parts.Form.{Form}
use Rattle.terms.specs.declared.parts.Form.TheVariants as form
use Rattle.terms.specs.declared.parts.Parts.{Parts}

-- a word after a space
abbrev pub spaced : List ℕ → List ℕ
spaced w = 32 ∷ w

-- a line: its first word, and each further one after a space
abbrev pub line_text : List ℕ → List (List ℕ) → List ℕ
line_text w ws = w ++ flat_map spaced ws

-- a line with its end
abbrev pub ended : List ℕ → List ℕ
ended l = l ++ 10 ∷ []

-- the text of a type, by the type's number
abbrev pub name_of : List (List ℕ) → ℕ → List ℕ
name_of ts n = get_or ts n []

-- the line of a type, and that of a pair
abbrev pub type_text : List ℕ → List ℕ
type_text t = line_text (codes "type") (t ∷ [])

abbrev pub pair_text : List (List ℕ) → ℕ × ℕ → List ℕ
pair_text ts p = line_text (codes "sub") (name_of ts p.0 ∷ name_of ts p.1 ∷ [])

-- how a declaration is written in Java; `this` has no name
unfoldable pub form_words : Form → List (List ℕ)
form_words (form.Name s) = codes "name" ∷ s ∷ []
form_words form.This = codes "this" ∷ []
form_words (form.Call s) = codes "call" ∷ s ∷ []
form_words (form.New s) = codes "new" ∷ s ∷ []
form_words (form.Method s) = codes "method" ∷ s ∷ []
form_words (form.Field s false) = codes "field" ∷ s ∷ []
form_words (form.Field s true) = codes "hidden-field" ∷ s ∷ []
form_words (form.Lambda s) = codes "lambda" ∷ s ∷ []

-- what a declaration wants at a place: a type, or the types of a lambda's parameters and, after `->`, of its body
abbrev pub arg_words : List (List ℕ) → Arg → List (List ℕ)
arg_words ts (Plain b) = name_of ts b ∷ []
arg_words ts (Fun ps r) = map (name_of ts) ps ++ codes "->" ∷ name_of ts r ∷ []

-- the line of a declaration
unfoldable pub decl_head : Bool → List ℕ
decl_head true = codes "crowded"
decl_head false = codes "decl"

abbrev pub decl_text : List (List ℕ) → Decl → List ℕ
decl_text ts d = line_text (decl_head d.crowded) (decimal d.weight ∷ name_of ts d.result ∷ form_words d.form ++ flat_map (arg_words ts) d.args)

-- a line with a number
unfoldable pub word_text : NumberWord → List ℕ
word_text Limit = codes "limit"
word_text Depth = codes "depth"
word_text Bound = codes "bound"
word_text Binding = codes "binding"
word_text Step = codes "step"

abbrev pub number_text : NumberWord → ℕ → List ℕ
number_text w n = line_text (word_text w) (decimal n ∷ [])

-- the lines that stand once
abbrev pub last_lines : Parts → List (List ℕ)
last_lines g =
    line_text (codes "goal") (name_of g.types g.goal ∷ [])
    ∷ number_text Limit g.limit
    ∷ number_text Depth g.depth
    ∷ line_text (codes "binder") (g.binder ∷ [])
    ∷ number_text Bound g.steps.bound
    ∷ number_text Binding g.steps.binder
    ∷ number_text Step g.steps.step
    ∷ []

-- the lines of an environment's sheet: the first line, the types, the pairs and the declarations, in their order, and those
-- that stand once
abbrev pub sheet_lines : Parts → List (List ℕ)
sheet_lines g = codes "insynth sheet 2" ∷ map type_text g.types ++ (map (pair_text g.types) g.pairs ++ (map (decl_text g.types) g.decls ++ last_lines g))

-- the text of an environment's sheet
unfoldable pub sheet_text : Parts → List ℕ
sheet_text g = flat_map ended (sheet_lines g)

-- a text that can be a word of a line: it has a character, and no space, carriage return or line feed
unfoldable pub is_plain : List ℕ → Bool
is_plain w = is_word w && list_all (λ b. not (b == 32) && not (b == 10)) w

-- the names in a form
abbrev pub form_names : Form → List (List ℕ)
form_names (form.Name s) = s ∷ []
form_names form.This = []
form_names (form.Call s) = s ∷ []
form_names (form.New s) = s ∷ []
form_names (form.Method s) = s ∷ []
form_names (form.Field s hidden) = s ∷ []
form_names (form.Lambda s) = s ∷ []

-- the environment can be said by a sheet: its texts are words, and no two types have one text, so each type's text has its
-- first place at the type's own number
pub record IsWritable (g : Parts) : Type 0 where
  pub types : list_all is_plain g.types ≡ true
  pub apart : (i : ℕ) → i < length g.types → place_of g.types (name_of g.types i) ≡ Some i
  pub names : list_all (λ d. list_all is_plain (form_names d.form)) g.decls ≡ true
  pub binder : is_plain g.binder ≡ true
