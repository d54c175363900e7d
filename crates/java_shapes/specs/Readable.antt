-- Which environments have texts that can be read back, and which tell all terms apart.
use Rattle.std.specs.Prelude.{◌≡◌, ℕ, ◌<◌, ◌≤◌, ◌^◌, Bool, true, ◌&&◌, not, List, [], ◌∷◌, ◌++◌, length, chars, IsUtf8, ◌⊎◌}
use Rattle.java_units.specs.Signs.{has}
use Rattle.java_units.specs.Forms.{primitives}
use Rattle.terms.specs.Apart.{Declares, Wants, IsToldApart}
use Rattle.terms.specs.Typing.{most_rows}
use Rattle.terms.specs.Text.{type_text}
use Rattle.terms.specs.declared.parts.Arg.{Arg}
use Rattle.terms.specs.declared.parts.Arg.TheVariants.{Plain, Fun}
use Rattle.terms.specs.declared.parts.Decl.{Decl}
use Rattle.terms.specs.declared.parts.Form.{Form}
use Rattle.terms.specs.declared.parts.Form.TheVariants.{Name, This, Call, New, Method, Field, Lambda}
use Rattle.terms.specs.declared.parts.Parts.{Parts}
use Rattle.java_shapes.specs.Words.{spells_identifier, literals, is_binder, IsPath}
use Rattle.java_shapes.specs.Grammar.{dimensions}

-- an identifier that is no variable's text
abbrev pub is_free : List ℕ → List ℕ → Bool
is_free binder w = spells_identifier w && not (is_binder binder w)

-- such identifiers joined by dots, as characters
abbrev pub AreFreeWords : Parts → List ℕ → Type 0
AreFreeWords g t = IsPath (is_free (chars g.binder)) (is_free (chars g.binder)) t

-- the same of a text in UTF-8
abbrev pub IsFreePath : Parts → List ℕ → Type 0
IsFreePath g s = IsUtf8 s × AreFreeWords g (chars s)

-- one such identifier
abbrev pub IsFreeWord : Parts → List ℕ → Type 0
IsFreeWord g s = IsUtf8 s × (is_free (chars g.binder) (chars s) ≡ true)

-- the text of a form: identifiers joined by dots, for a name also a literal, and one identifier for a method or a field
abbrev pub IsFormText : Parts → Form → Type 0
IsFormText g (Name s) = IsUtf8 s × (AreFreeWords g (chars s) ⊎ (has literals (chars s) ≡ true))
IsFormText g This = Unit {0}
IsFormText g (Call s) = IsFreePath g s
IsFormText g (New s) = IsFreePath g s
IsFormText g (Method s) = IsFreeWord g s
IsFormText g (Field s hidden) = IsFreeWord g s
IsFormText g (Lambda s) = IsFreePath g s

-- the text of a type: identifiers joined by dots, or a primitive type, and dimensions
pub record IsTypeText (g : Parts) (s : List ℕ) : Type 0 where
  pub utf8 : IsUtf8 s
  pub base : List ℕ
  pub count : ℕ
  pub base_is : AreFreeWords g base ⊎ (has primitives base ≡ true)
  pub is : chars s ≡ base ++ dimensions count

-- the texts of the forms, and of the types that crowded declarations want, can be read; the binder is an identifier,
-- and no identifier of these texts is the binder with digits alone behind it
pub record IsReadable (g : Parts) : Type 0 where
  pub binder_text : IsUtf8 g.binder
  pub binder : spells_identifier (chars g.binder) ≡ true
  pub forms : (i : ℕ) (d : Decl) → Declares g i d → IsFormText g d.form
  pub types : (i : ℕ) (d : Decl) (b : ℕ) → Declares g i d → d.crowded ≡ true → Wants d.args b → IsTypeText g (type_text g b)

-- its texts can be read, and tell its terms apart
pub record IsApart (g : Parts) : Type 0 where
  pub readable : IsReadable g
  pub told : IsToldApart g

-- each row of a context is shorter than 2 ^ 64
abbrev pub AreShortRows : List (List ℕ) → Type 0
AreShortRows [] = Unit {0}
AreShortRows (row ∷ more) = (length row < 2 ^ 64) × AreShortRows more

-- so is the row of each lambda that a place wants
abbrev pub AreShort : List Arg → Type 0
AreShort [] = Unit {0}
AreShort (Plain b ∷ more) = AreShort more
AreShort (Fun ps r ∷ more) = (length ps < 2 ^ 64) × AreShort more

-- the rows of all lambdas are short, as those of each environment in memory are: their variables have numbers that
-- `decimal` writes
abbrev pub HasShortRows : Parts → Type 0
HasShortRows g = (i : ℕ) (d : Decl) → Declares g i d → AreShort d.args

-- a context: at most three short rows
pub record IsContext (ctx : List (List ℕ)) : Type 0 where
  pub few : length ctx ≤ most_rows
  pub short : AreShortRows ctx
