-- What types, parameters and type variables say that the grammar spells.
use Rattle.std.specs.Prelude.{◌≡◌, ℕ, suc, ◌+◌, List, [], ◌∷◌, take, codes, Option, Some, None}
use Rattle.std.specs.List.{flat_map}
use Rattle.java_units.specs.declared.types.TypeText.{TypeText}
use Rattle.java_units.specs.declared.types.TypeVar.{TypeVar}
use Rattle.java_units.specs.declared.types.Param.{Param}
use Rattle.java_units.specs.Signs.{Sign}
use Rattle.java_units.specs.Forms.{type_len, param_len, params_len, vars_len}
use Rattle.java_units.specs.Values.{type_text, param_of, kept, params_of, vars_of}
use Rattle.java_units.specs.Grammar.{IsSign, sign, IsBoth, both, IsEither, one, other, IsOptional, absent, present, no_more, one_more, IsList, last, followed, IsIdentifier, identifier, IsPrimitive, primitive, IsTypePart, IsClassType, IsDims, IsType, IsDots, IsParam, IsParams, IsVar, IsVars}
use Rattle.java_units.specs.Longest.{NamesAreIdentifiers}

-- The text of an identifier.
abbrev pub name_of : (ss : List Sign) → IsIdentifier ss → List ℕ
name_of _ (identifier s e) = s.text

-- The identifier of a part.
abbrev pub part_name : (ss : List Sign) → IsTypePart ss → List ℕ
part_name _ (both name arguments n a) = name_of name n

-- The identifiers of the parts.
abbrev pub class_names : (ss : List Sign) → IsClassType ss → List (List ℕ)
class_names _ (last part p) = part_name part p ∷ []
class_names _ (followed part dot others p d c) = part_name part p ∷ class_names others c

-- These, or the one word of a primitive type.
abbrev pub base_names : (ss : List Sign) → IsEither IsPrimitive IsClassType ss → List (List ℕ)
base_names _ (one _ (primitive s e)) = s.text ∷ []
base_names _ (other ss c) = class_names ss c

-- How many `[ ]` there are.
abbrev pub spelled_dims : (ss : List Sign) → IsDims ss → ℕ
spelled_dims _ no_more = 0
spelled_dims _ (one_more dim others d ds) = suc (spelled_dims others ds)

-- The type.
abbrev pub spelled_type : (ss : List Sign) → IsType ss → TypeText
spelled_type _ (both base dims b d) = record { parts = base_names base b; dims = spelled_dims dims d }

-- What is read of a type is what it says by the grammar, however it is spelled by it.
abbrev pub TypesAreRead : Type 0
TypesAreRead = (ss : List Sign) → NamesAreIdentifiers ss → (spelled : IsType (take (type_len ss) ss)) → type_text 0 ss ≡ spelled_type (take (type_len ss) ss) spelled

-- The type with so many more dimensions.
abbrev pub with_dims : ℕ → TypeText → TypeText
with_dims more t = record t { dims = t.dims + more }

-- The name of a parameter, or `this`.
abbrev pub param_name_text : (ss : List Sign) → IsEither IsIdentifier (IsSign (codes "this")) ss → List ℕ
param_name_text _ (one _ (identifier s e)) = s.text
param_name_text _ (other _ (sign s e)) = s.text

-- One dimension for dots.
abbrev pub spelled_dots : (ss : List Sign) → IsOptional IsDots ss → ℕ
spelled_dots _ absent = 0
spelled_dots _ (present ss d) = 1

-- The parameter.
abbrev pub spelled_param : (ss : List Sign) → IsParam ss → Param
spelled_param _ (both marks _ m (both fin _ n (both kind _ t (both dots _ d (both name dims c ds))))) =
    record { name = param_name_text name c; kind = with_dims (spelled_dots dots d + spelled_dims dims ds) (spelled_type kind t) }

-- So it is of a parameter.
abbrev pub ParamsAreRead : Type 0
ParamsAreRead = (ss : List Sign) → NamesAreIdentifiers ss → (spelled : IsParam (take (param_len ss) ss)) → param_of ss ≡ spelled_param (take (param_len ss) ss) spelled

-- What each form of a list says.
abbrev pub each_spelled : (separator : List ℕ) (Form : List Sign → Type 0) (V : Type 0) → ((ss : List Sign) → Form ss → V) → (ss : List Sign) → IsList separator Form ss → List V
each_spelled separator Form V value _ (last ss f) = value ss f ∷ []
each_spelled separator Form V value _ (followed first s others f d l) = value first f ∷ each_spelled separator Form V value others l

-- The first bound.
abbrev pub first_type : (ss : List Sign) → IsList (codes "&") IsType ss → TypeText
first_type _ (last ss t) = spelled_type ss t
first_type _ (followed first s others t d l) = spelled_type first t

-- It, where there is one.
abbrev pub spelled_bound : (ss : List Sign) → IsOptional (IsBoth (IsSign (codes "extends")) (IsList (codes "&") IsType)) ss → Option TypeText
spelled_bound _ absent = None
spelled_bound _ (present _ (both word types w t)) = Some (first_type types t)

-- The type variable.
abbrev pub spelled_var : (ss : List Sign) → IsVar ss → TypeVar
spelled_var _ (both name bounds n b) = record { name = name_of name n; bound = spelled_bound bounds b }

-- The type variables.
abbrev pub spelled_vars : (ss : List Sign) → IsVars ss → List TypeVar
spelled_vars _ (both left _ l (both vars right v r)) = each_spelled (codes ",") IsVar TypeVar spelled_var vars v

-- The parameters, `this` among them.
abbrev pub all_params : (ss : List Sign) → IsOptional (IsList (codes ",") IsParam) ss → List Param
all_params _ absent = []
all_params _ (present ss l) = each_spelled (codes ",") IsParam Param spelled_param ss l

-- The parameters but `this`.
abbrev pub spelled_params : (ss : List Sign) → IsParams ss → List Param
spelled_params _ (both left _ l (both params right p r)) = flat_map kept (all_params params p)

-- So it is of type variables, and of parameters in brackets.
abbrev pub VarsAreRead : Type 0
VarsAreRead = (ss : List Sign) → NamesAreIdentifiers ss → (spelled : IsVars (take (vars_len ss) ss)) → vars_of ss ≡ spelled_vars (take (vars_len ss) ss) spelled

abbrev pub ParamListsAreRead : Type 0
ParamListsAreRead = (ss : List Sign) → NamesAreIdentifiers ss → (spelled : IsParams (take (params_len ss) ss)) → params_of ss ≡ spelled_params (take (params_len ss) ss) spelled
