-- The parameters of `insynth.weights`: ten numbers, each a member with the name of its weight.
use Rattle.std.specs.Prelude.{ℕ, ◌+◌, Bool, ◌&&◌, nat_le, List, [], ◌∷◌, codes, is_some, Option, option_and_then, unwrap_or, Result, Ok, Err, if◌then◌else◌}
use Rattle.std.specs.List.{list_all}
use Rattle.serde_json.specs.Data.{Data}
use Rattle.decl_index.specs.declared.weights.Weights.{Weights}
use Rattle.lsp_forms.specs.Params.{member_of, number_of, whole, fault}
use Rattle.lsp_forms.specs.declared.forms.ParamFault.{ParamFault}
use Rattle.lsp_forms.specs.declared.forms.Command.{Command}
use Rattle.lsp_forms.specs.declared.forms.Command.TheVariants.{SetWeights}

-- The names of the ten.
abbrev pub weight_names : List (List ℕ)
weight_names =
    codes "bound" ∷ codes "binder" ∷ codes "local" ∷ codes "step" ∷ codes "lambda"
    ∷ codes "own" ∷ codes "package" ∷ codes "literal" ∷ codes "far" ∷ codes "span" ∷ []

-- Whether a member is a number.
abbrev pub is_number : Option Data → List ℕ → Bool
is_number o name = is_some (number_of (member_of name o))

-- The number that a member is, where it is one of 32 bits.
unfoldable pub word_in : Option Data → List ℕ → Option ℕ
word_in o name = option_and_then (λ n. whole n 0 4294967295) (number_of (member_of name o))

abbrev pub is_word : Option Data → List ℕ → Bool
is_word o name = is_some (word_in o name)

abbrev pub weight_in : Option Data → List ℕ → ℕ
weight_in o name = unwrap_or (word_in o name) 0

-- The ten as weights.
unfoldable pub weights_in : Option Data → Weights
weights_in o = record {
  bound = weight_in o (codes "bound");
  binder = weight_in o (codes "binder");
  local = weight_in o (codes "local");
  step = weight_in o (codes "step");
  lambda = weight_in o (codes "lambda");
  own = weight_in o (codes "own");
  «package» = weight_in o (codes "package");
  literal = weight_in o (codes "literal");
  far = weight_in o (codes "far");
  span = weight_in o (codes "span");
}

-- A weight within bounds.
abbrev pub is_within : ℕ → ℕ → ℕ → Bool
is_within low high n = nat_le low n && nat_le n high

-- Whether a version may have these weights.
unfoldable pub may_weigh : Weights → Bool
may_weigh w =
    is_within 1 100 w.bound && (is_within 1 100 w.binder && (is_within 1 10000 w.step
    && (is_within 5 10000 w.local && (is_within 5 10000 w.lambda && (is_within 5 10000 w.own
    && (is_within 5 10000 w.«package» && (is_within 5 10000 w.literal && (nat_le 5 w.far && nat_le (w.far + w.span) 10000))))))))

-- `insynth.weights`: what is missing or no number comes before what is out of its range.
unfoldable pub weights_of : Option Data → Result Command ParamFault
weights_of o =
    if list_all (is_number o) weight_names then
    (if list_all (is_word o) weight_names && may_weigh (weights_in o) then Ok (SetWeights (weights_in o)) else Err (fault 2))
    else Err (fault 1)
