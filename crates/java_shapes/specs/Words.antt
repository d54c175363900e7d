-- The words of a Java expression, as characters.
use Rattle.std.specs.Prelude.{◌≡◌, ℕ, Bool, true, false, ◌&&◌, ◌||◌, not, ◌==◌, List, [], ◌∷◌, ◌++◌, codes}
use Rattle.std.specs.List.{list_all}
use Rattle.java_tokens.specs.Classes.{is_digit}
use Rattle.java_tokens.specs.Words.{is_word}
use Rattle.java_units.specs.Signs.{has, reserved}

-- an identifier, by its characters: a word that is not reserved (JLS 3.8)
unfoldable pub spells_identifier : List ℕ → Bool
spells_identifier w = is_word w && not (has reserved w)

-- the literals that a declaration may be written as (JLS 3.10)
abbrev pub literals : List (List ℕ)
literals = codes "0" ∷ codes "true" ∷ codes "false" ∷ (34 ∷ 34 ∷ []) ∷ []

-- a literal, an identifier or `this`: what a name with dots begins with (JLS 6.5, 15.8)
unfoldable pub begins_name : List ℕ → Bool
begins_name w = spells_identifier w || has (codes "this" ∷ literals) w

-- words behind dots: `.a.b`
unfoldable pub dotted : List (List ℕ) → List ℕ
dotted [] = []
dotted (w ∷ ws) = 46 ∷ (w ++ dotted ws)

-- one or more ASCII digits
unfoldable pub are_digits : List ℕ → Bool
are_digits [] = false
are_digits (c ∷ cs) = is_digit c && list_all is_digit cs

-- a binder: this text, then one or more ASCII digits
unfoldable pub is_binder : List ℕ → List ℕ → Bool
is_binder [] w = are_digits w
is_binder (b ∷ bs) [] = false
is_binder (b ∷ bs) (c ∷ cs) = (b == c) && is_binder bs cs

-- words joined by dots: the first passes one test, each other one a second
pub record IsPath (first_test rest_test : List ℕ → Bool) (t : List ℕ) : Type 0 where
  pub first : List ℕ
  pub rest : List (List ℕ)
  pub first_is : first_test first ≡ true
  pub rest_are : list_all rest_test rest ≡ true
  pub is : t ≡ first ++ dotted rest

-- identifiers joined by dots (JLS 6.5)
abbrev pub IsQualified : List ℕ → Type 0
IsQualified t = IsPath spells_identifier spells_identifier t

-- a name with its fields: a literal, an identifier or `this`, and identifiers behind dots
abbrev pub IsNamePath : List ℕ → Type 0
IsNamePath t = IsPath begins_name spells_identifier t

-- whether such a path may be called: its last word is an identifier, and it is no method of a bare `this`
abbrev pub may_call : List ℕ → List (List ℕ) → Bool
may_call first [] = spells_identifier first
may_call first (m ∷ []) = not (has (codes "this" ∷ []) first)
may_call first (m ∷ n ∷ rest) = true

-- the name of a call without what stands before it
pub record IsCallPath (t : List ℕ) : Type 0 where
  pub path : IsNamePath t
  pub last : may_call path.first path.rest ≡ true
