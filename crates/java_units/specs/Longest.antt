-- Readers that take the longest form at the front.
use Rattle.std.specs.Prelude.{◌≡◌, ◌<◌, ◌≤◌, ℕ, true, All, List, length, take}
use Rattle.std.specs.Str.{IsUtf8}
use Rattle.java_tokens.specs.Tokens.{AreTokensOf}
use Rattle.java_tokens.specs.declared.token.Token.{Token}
use Rattle.java_units.specs.Signs.{Sign, signs_of}
use Rattle.java_units.specs.Identifiers.{is_identifier}
use Rattle.java_units.specs.Forms.{type_len, param_len, params_len, vars_len}
use Rattle.java_units.specs.Grammar.{IsType, IsParam, IsParams, IsVars}

-- Each sign that counts as an identifier is one by its text.
abbrev pub NamesAreIdentifiers : List Sign → Type 0
NamesAreIdentifiers ss = All (λ s. s.is_name ≡ true → is_identifier s.text ≡ true) ss

-- So it is of the signs of each text.
abbrev pub TextsHaveNames : Type 0
TextsHaveNames = (text : List ℕ) (tokens : List Token) → IsUtf8 text → AreTokensOf text tokens → NamesAreIdentifiers (signs_of text tokens)

-- At the front of these signs the reader takes a form that the grammar spells, and no longer prefix is spelled;
-- where it takes nothing, no prefix is.
pub record TakesLongest (Spells : List Sign → Type 0) (len : List Sign → ℕ) (ss : List Sign) : Type 0 where
  pub within : len ss ≤ length ss
  pub sound : 0 < len ss → Spells (take (len ss) ss)
  pub longest : (n : ℕ) → n ≤ length ss → Spells (take n ss) → n ≤ len ss
  pub none : len ss ≡ 0 → (n : ℕ) → ¬ (Spells (take n ss))

-- The longest type at the front is read.
abbrev pub TypesAreLongest : Type 0
TypesAreLongest = (ss : List Sign) → NamesAreIdentifiers ss → TakesLongest IsType type_len ss

-- So is the longest parameter.
abbrev pub ParamsAreLongest : Type 0
ParamsAreLongest = (ss : List Sign) → NamesAreIdentifiers ss → TakesLongest IsParam param_len ss

-- So are the longest parameters in brackets.
abbrev pub ParamListsAreLongest : Type 0
ParamListsAreLongest = (ss : List Sign) → NamesAreIdentifiers ss → TakesLongest IsParams params_len ss

-- And so are type variables.
abbrev pub VarsAreLongest : Type 0
VarsAreLongest = (ss : List Sign) → NamesAreIdentifiers ss → TakesLongest IsVars vars_len ss
