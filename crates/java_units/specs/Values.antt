-- What the forms give.
use Rattle.std.specs.Prelude.{ℕ, ◌+◌, ◌-◌, ◌/◌, Bool, ◌&&◌, ◌||◌, not, ◌==◌, List, [], ◌∷◌, take, drop, map, if◌then◌else◌, codes, bytes_eq, Option, Some, None}
use Rattle.std.specs.List.{flat_map}
use Rattle.java_units.specs.Signs.{Sign, is}
use Rattle.java_units.specs.Forms.{begins_any, base_len, type_len, dims_len, bounds_len, ahead_len, wide_len, dots_len, vars_len, entries}
use Rattle.java_units.specs.declared.entries.Entry.TheVariants as entry
use Rattle.java_units.specs.declared.types.TypeText.{TypeText}
use Rattle.java_units.specs.declared.types.TypeVar.{TypeVar}
use Rattle.java_units.specs.declared.types.Param.{Param}
use Rattle.java_units.specs.declared.types.SourceField.{SourceField}

-- The text of the sign at the front.
unfoldable pub first_text : List Sign → List ℕ
first_text [] = []
first_text (s ∷ ss) = s.text

-- How deep the next sign stands in `<` and `>`.
unfoldable pub angled : ℕ → Sign → ℕ
angled d s = if is (codes "<") s then d + 1 else if is (codes ">") s then d - 1 else d

-- Whether the sign is a part of a name or type: it is no dot, and stands outside `<` and `>`.
unfoldable pub takes : ℕ → Sign → Bool
takes d s = d == 0 && not ((is (codes ".") s || is (codes "<") s) || is (codes ">") s)

-- The parts of a name, or of a type without its dimensions.
unfoldable pub parts_of : ℕ → List Sign → List (List ℕ)
parts_of d [] = []
parts_of d (s ∷ ss) = if takes d s then s.text ∷ parts_of (angled d s) ss else parts_of (angled d s) ss

-- The type at the front, with so many further dimensions.
unfoldable pub type_text : ℕ → List Sign → TypeText
type_text extra ss = record { parts = parts_of 0 (take (base_len ss) ss); dims = dims_len (drop (base_len ss) ss) / 2 + extra }

-- The first bound of a type variable, from behind its name.
unfoldable pub bound_of : List Sign → Option TypeText
bound_of ss = if bounds_len ss == 0 then None else Some (type_text 0 (drop 1 ss))

unfoldable pub var_of : List Sign → TypeVar
var_of ss = record { name = first_text ss; bound = bound_of (drop 1 ss) }

-- The type variables at the front, or none.
unfoldable pub vars_of : List Sign → List TypeVar
vars_of ss = if vars_len ss == 0 then [] else map var_of (entries entry.Var (drop 1 ss))

-- A parameter, from its type on.
unfoldable pub typed_param : List Sign → Param
typed_param ss = record {
  name = first_text (drop (wide_len ss) ss);
  kind = type_text (dots_len (drop (type_len ss) ss) / 3 + dims_len (drop 1 (drop (wide_len ss) ss)) / 2) ss;
}

unfoldable pub param_of : List Sign → Param
param_of ss = typed_param (drop (ahead_len ss) ss)

-- A parameter named `this` is dropped.
unfoldable pub kept : Param → List Param
kept p = if bytes_eq (codes "this") p.name then [] else p ∷ []

-- The parameters, from their `(` on.
unfoldable pub params_of : List Sign → List Param
params_of ss = flat_map (λ x. kept (param_of x)) (entries entry.Param (drop 1 ss))

-- A field of the type that stands at the front of the second list.
unfoldable pub field_of : ℕ → List Sign → List Sign → SourceField
field_of flags ss x = record { name = first_text x; flags = flags; kind = type_text (dims_len (drop 1 x) / 2) ss }

-- The fields that a type and their names declare.
unfoldable pub fields_of : ℕ → List Sign → List SourceField
fields_of flags ss = map (field_of flags ss) (entries entry.Field (drop (type_len ss) ss))

-- The types that a list in the head of a class names, where one of these words begins it.
unfoldable pub types_of : List (List ℕ) → List Sign → List TypeText
types_of words ss = if begins_any words ss then map (type_text 0) (entries entry.Type (drop 1 ss)) else []
