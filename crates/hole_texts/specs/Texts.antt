-- What is known of the texts of an environment.
use Rattle.std.specs.Prelude.{◌≡◌, ℕ, List, IsUtf8, slice_get, Some}
use Rattle.terms.specs.Apart.{Declares}
use Rattle.terms.specs.declared.parts.Decl.{Decl}
use Rattle.terms.specs.declared.parts.Parts.{Parts}
use Rattle.scopes.specs.Binders.{form_text}

-- The texts of the forms and of the types are in UTF-8, as each `str` is.
pub record HasTexts (g : Parts) : Type 0 where
  pub forms : (i : ℕ) (d : Decl) → Declares g i d → IsUtf8 (form_text d.form)
  pub types : (i : ℕ) (t : List ℕ) → slice_get g.types i ≡ Some t → IsUtf8 t
