-- Tests of the texts of an environment.
use Rattle.std.specs.Prelude.{◌≡◌, ℕ, Bool, true, false, ◌&&◌, ◌||◌, ◌==◌, not, if◌then◌else◌, List, [], ◌∷◌, ◌++◌, Option, Some, None, chars, slice_get}
use Rattle.std.specs.List.{list_all}
use Rattle.java_units.specs.Signs.{has}
use Rattle.java_shapes.specs.Words.{literals}
use Rattle.java_shapes.specs.Readable.{is_free, IsFormText, IsTypeText}
use Rattle.terms.specs.Apart.{Wants}
use Rattle.terms.specs.Text.{type_text}
use Rattle.terms.specs.declared.parts.Arg.{Arg}
use Rattle.terms.specs.declared.parts.Decl.{Decl}
use Rattle.terms.specs.declared.parts.Parts.{Parts}
use Rattle.terms.specs.declared.parts.Form.{Form}
use Rattle.terms.specs.declared.parts.Form.TheVariants.{Name, This, Call, New, Method, Field, Lambda}

-- whether the words between dots pass the test; of the first of them these characters were read
unfoldable pub are_parts : (List ℕ → Bool) → List ℕ → List ℕ → Bool
are_parts test w [] = test w
are_parts test w (c ∷ cs) = if c == 46 then test w && are_parts test [] cs else are_parts test (w ++ c ∷ []) cs

-- the same, where a word before failed or not
abbrev pub parts_option : (List ℕ → Bool) → Option (List ℕ) → List ℕ → Bool
parts_option test None cs = false
parts_option test (Some w) cs = are_parts test w cs

-- whether a text is free words joined by dots
unfoldable pub is_free_path : List ℕ → List ℕ → Bool
is_free_path binder t = are_parts (is_free binder) [] t

-- whether the text of a form can be read
abbrev pub is_form_text : List ℕ → Form → Bool
is_form_text binder (Name s) = is_free_path binder (chars s) || has literals (chars s)
is_form_text binder This = true
is_form_text binder (Call s) = is_free_path binder (chars s)
is_form_text binder (New s) = is_free_path binder (chars s)
is_form_text binder (Method s) = is_free binder (chars s)
is_form_text binder (Field s hidden) = is_free binder (chars s)
is_form_text binder (Lambda s) = is_free_path binder (chars s)

-- nothing, or what begins with `[`
abbrev pub BeginsBracket : List ℕ → Type 0
BeginsBracket [] = Unit {0}
BeginsBracket (c ∷ cs) = c ≡ 91

-- no `[` in it
abbrev pub HasNoBracket : List ℕ → Type 0
HasNoBracket t = list_all (λ c. not (c == 91)) t ≡ true

-- a text, cut before its first `[`
pub record IsCut (t base rest : List ℕ) : Type 0 where
  pub is : t ≡ base ++ rest
  pub base_is : HasNoBracket base
  pub rest_is : BeginsBracket rest

-- whether a text is some `[]`; the flag says that `[` was read
unfoldable pub dims_from : Bool → List ℕ → Bool
dims_from false [] = true
dims_from true [] = false
dims_from false (c ∷ cs) = (c == 91) && dims_from true cs
dims_from true (c ∷ cs) = (c == 93) && dims_from false cs

-- the texts of the types that places want can be read
abbrev pub AreTypeTexts : Parts → List Arg → Type 0
AreTypeTexts g args = (b : ℕ) → Wants args b → IsTypeText g (type_text g b)

-- the texts of a declaration can be read: of its form and, where it is crowded, of the types that it wants
pub record IsDeclReadable (g : Parts) (d : Decl) : Type 0 where
  pub form : IsFormText g d.form
  pub types : d.crowded ≡ true → AreTypeTexts g d.args

-- the same of declarations
abbrev pub AreDeclsReadable : Parts → List Decl → Type 0
AreDeclsReadable g ds = (i : ℕ) (d : Decl) → slice_get ds i ≡ Some d → IsDeclReadable g d
