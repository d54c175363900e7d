-- Texts that differ in white space and comments alone.
use Rattle.std.specs.Prelude.{◌≡◌, ℕ, not, List, map, filter, Option, Some, None}
use Rattle.std.specs.Str.{IsUtf8}
use Rattle.java_tokens.specs.Tokens.{AreTokensOf}
use Rattle.java_tokens.specs.declared.token.Token.{Token}
use Rattle.java_units.specs.declared.types.SourceMethod.{SourceMethod}
use Rattle.java_units.specs.declared.types.SourceClass.{SourceClass}
use Rattle.java_units.specs.declared.types.Unit as unit
use Rattle.java_units.specs.Signs.{Sign, is_blank, text_of}
use Rattle.java_units.specs.Units.{IsUnit}

-- A sign without its number among the tokens of its text.
unfoldable pub unnumbered : Sign → Sign
unnumbered s = record s { number = 0 }

-- That a body is there, without its range.
unfoldable pub unranged_body : Option (ℕ × ℕ) → Option (ℕ × ℕ)
unranged_body None = None
unranged_body (Some r) = Some (0, 0)

unfoldable pub unranged : SourceMethod → SourceMethod
unranged m = record m { body = unranged_body m.body }

unfoldable pub unranged_class : SourceClass → SourceClass
unranged_class c = record c { methods = map unranged c.methods }

-- Two units declare the same but for the ranges of bodies.
pub record DeclareAlike (u v : unit.Unit) : Type 0 where
  pub same_package : u.«package» ≡ v.«package»
  pub same_imports : u.imports ≡ v.imports
  pub same_classes : map unranged_class u.classes ≡ map unranged_class v.classes

-- The texts of the tokens other than white space and comments.
abbrev pub spelled : List ℕ → List Token → List (List ℕ)
spelled text tokens = map (text_of text) (filter (λ t. not (is_blank t.kind)) tokens)

-- Only these decide: two texts that spell the same declare the same.
abbrev pub OnlySignsCount : Type 0
OnlySignsCount = (text other : List ℕ) (tokens others : List Token) (u v : unit.Unit) →
    IsUtf8 text → IsUtf8 other → AreTokensOf text tokens → AreTokensOf other others
    → spelled text tokens ≡ spelled other others → IsUnit text tokens u → IsUnit other others v → DeclareAlike u v
