-- Java's forms as a grammar: which signs spell each of them.
use Rattle.std.specs.Prelude.{◌≡◌, ℕ, true, List, [], ◌∷◌, ◌++◌, length, codes}
use Rattle.java_units.specs.Signs.{Sign, is, has}
use Rattle.java_units.specs.Forms.{primitives}
use Rattle.java_units.specs.Brackets.{IsMatched}

-- One sign of this text.
pub data IsSign (text : List ℕ) : List Sign → Type 0 where
  sign : (s : Sign) → is text s ≡ true → IsSign text (s ∷ [])

-- The first form, and the second one behind it.
pub data IsBoth (First Second : List Sign → Type 0) : List Sign → Type 0 where
  both : (first second : List Sign) → First first → Second second → IsBoth First Second (first ++ second)

-- The one form or the other.
pub data IsEither (One Other : List Sign → Type 0) : List Sign → Type 0 where
  one : (ss : List Sign) → One ss → IsEither One Other ss
  other : (ss : List Sign) → Other ss → IsEither One Other ss

-- The form or nothing.
pub data IsOptional (Form : List Sign → Type 0) : List Sign → Type 0 where
  absent : IsOptional Form []
  present : (ss : List Sign) → Form ss → IsOptional Form ss

-- The form any number of times.
pub data IsMany (Form : List Sign → Type 0) : List Sign → Type 0 where
  no_more : IsMany Form []
  one_more : (first others : List Sign) → Form first → IsMany Form others → IsMany Form (first ++ others)

-- The form once or more, with a sign of this text between each two.
pub data IsList (separator : List ℕ) (Form : List Sign → Type 0) : List Sign → Type 0 where
  last : (ss : List Sign) → Form ss → IsList separator Form ss
  followed : (first : List Sign) (between : Sign) (others : List Sign) → Form first → is separator between ≡ true → IsList separator Form others → IsList separator Form (first ++ (between ∷ others))

-- From an opening sign up to and with the closing one that matches it.
abbrev pub IsGroup : List ℕ → List ℕ → List Sign → Type 0
IsGroup left right ss = IsMatched left right ss (length ss)

-- An identifier (JLS 3.8).
pub data IsIdentifier : List Sign → Type 0 where
  identifier : (s : Sign) → s.is_name ≡ true → IsIdentifier (s ∷ [])

-- A primitive type (JLS 4.2).
pub data IsPrimitive : List Sign → Type 0 where
  primitive : (s : Sign) → has primitives s.text ≡ true → IsPrimitive (s ∷ [])

-- An identifier, and type arguments behind it or none (JLS 4.5).
abbrev pub IsTypePart : List Sign → Type 0
IsTypePart ss = IsBoth IsIdentifier (IsOptional (IsGroup (codes "<") (codes ">"))) ss

-- Such parts with dots between (JLS 4.3).
abbrev pub IsClassType : List Sign → Type 0
IsClassType ss = IsList (codes ".") IsTypePart ss

-- Any number of `[ ]` (JLS 10.1).
abbrev pub IsDims : List Sign → Type 0
IsDims ss = IsMany (IsBoth (IsSign (codes "[")) (IsSign (codes "]"))) ss

-- A primitive type or a class type, and dimensions behind it (JLS 4.2, 4.3).
abbrev pub IsType : List Sign → Type 0
IsType ss = IsBoth (IsEither IsPrimitive IsClassType) IsDims ss

-- Identifiers with dots between (JLS 6.2).
abbrev pub IsName : List Sign → Type 0
IsName ss = IsList (codes ".") IsIdentifier ss

-- `@` and a name, and values in `( )` behind it or none (JLS 9.7).
abbrev pub IsAnnotation : List Sign → Type 0
IsAnnotation ss = IsBoth (IsSign (codes "@")) (IsBoth IsName (IsOptional (IsGroup (codes "(") (codes ")")))) ss

-- `. . .`
abbrev pub IsDots : List Sign → Type 0
IsDots ss = IsBoth (IsSign (codes ".")) (IsBoth (IsSign (codes ".")) (IsSign (codes "."))) ss

-- A parameter: annotations, `final` or not, its type, dots or not, its name or `this`, and dimensions (JLS 8.4.1).
abbrev pub IsParam : List Sign → Type 0
IsParam ss =
    IsBoth (IsMany IsAnnotation) (IsBoth (IsOptional (IsSign (codes "final"))) (IsBoth IsType (IsBoth (IsOptional IsDots) (IsBoth (IsEither IsIdentifier (IsSign (codes "this"))) IsDims)))) ss

-- Parameters in `( )` with commas between, or none (JLS 8.4.1).
abbrev pub IsParams : List Sign → Type 0
IsParams ss = IsBoth (IsSign (codes "(")) (IsBoth (IsOptional (IsList (codes ",") IsParam)) (IsSign (codes ")"))) ss

-- A type variable, and `extends` with its bounds behind it or nothing (JLS 4.4).
abbrev pub IsVar : List Sign → Type 0
IsVar ss = IsBoth IsIdentifier (IsOptional (IsBoth (IsSign (codes "extends")) (IsList (codes "&") IsType))) ss

-- Type variables in `< >` with commas between (JLS 8.1.2, 8.4.4).
abbrev pub IsVars : List Sign → Type 0
IsVars ss = IsBoth (IsSign (codes "<")) (IsBoth (IsList (codes ",") IsVar) (IsSign (codes ">"))) ss
