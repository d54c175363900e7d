-- The types of an environment: those of values, and one without a value where something that is mentioned gives none.
use Rattle.std.specs.Prelude.{ℕ, suc, Bool, false, if◌then◌else◌, List, [], ◌∷◌, map, length, get_or, codes, Option, Some, None}
use Rattle.type_names.specs.declared.kinds.Erased.{Erased}
use Rattle.type_names.specs.Descriptors.{outcome}
use Rattle.offers.specs.Scenes.{Scene, put}
use Rattle.offers.specs.Spellings.{type_text}
use Rattle.offers.specs.declared.member.Member.{Member}
use Rattle.offers.specs.declared.member.Face.{Face}
use Rattle.offers.specs.Candidates.{same_outcome}
use Rattle.offers.specs.Omissions.{after_three}
use Rattle.offers.specs.Functional.{faces}
use Rattle.offers.specs.Types.{types_of, mentions_void}

pub record Kinds : Type 0 where
  pub types : List Erased
  pub void : Bool

-- All of them, in rising byte order of their descriptors. The one without a value is None; its descriptor is `V`.
unfoldable pub listed : Kinds → List (Option Erased)
listed ks = if ks.void then put outcome None (map Some ks.types) else map Some ks.types

abbrev pub count : Kinds → ℕ
count ks = length (listed ks)

-- The number of a type: its place among them.
unfoldable pub place_among : List (Option Erased) → Option Erased → ℕ
place_among [] k = 0
place_among (u ∷ us) k = if same_outcome k u then 0 else suc (place_among us k)

unfoldable pub number_in : Kinds → Option Erased → ℕ
number_in ks k = place_among (listed ks) k

abbrev pub type_number : Kinds → Erased → ℕ
type_number ks t = number_in ks (Some t)

-- One type is a strict subtype of another; the one without a value has no step to or from another.
abbrev pub is_outcome_below : Scene → Option Erased → Option Erased → Bool
is_outcome_below v (Some a) (Some b) = v.below a b
is_outcome_below v _ _ = false

abbrev pub is_below_in : Scene → Kinds → ℕ → ℕ → Bool
is_below_in v ks i j = is_outcome_below v (get_or (listed ks) i None) (get_or (listed ks) j None)

-- The text of a type; without a value it is `void`.
abbrev pub kind_text : Scene → Option Erased → List ℕ
kind_text v None = codes "void"
kind_text v (Some t) = type_text v t

-- The types that a scene mentions with these members and functional interfaces.
abbrev pub kinds_of : Scene → List Member → List Face → Kinds
kinds_of v ms fs = record { types = types_of v ms fs; void = mentions_void ms fs }

abbrev pub environment_kinds : Scene → Kinds
environment_kinds v = kinds_of v (after_three v) (faces v)
