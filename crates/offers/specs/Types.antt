-- The types that are mentioned at a hole, and which are below which.
use Rattle.std.specs.Prelude.{ℕ, suc, Bool, ◌||◌, not, if◌then◌else◌, List, [], ◌∷◌, ◌++◌, map, get_or, codes, is_some, Option, Some, None}
use Rattle.std.specs.List.{list_any, flat_map}
use Rattle.type_names.specs.declared.kinds.Base.TheVariants.{Int, Boolean}
use Rattle.type_names.specs.declared.kinds.Erased.{Erased}
use Rattle.type_names.specs.Descriptors.{field}
use Rattle.offers.specs.Scenes.{Scene, edited, of_class, same_type, denoted, sorted}
use Rattle.offers.specs.declared.member.Member.{Member}
use Rattle.offers.specs.Candidates.{value}
use Rattle.offers.specs.Omissions.{after_three}
use Rattle.offers.specs.declared.member.Face.{Face}
use Rattle.offers.specs.Functional.{faces, of_base}

-- The type of a text in quotes.
abbrev pub string_type : Erased
string_type = of_class (codes "java/lang/String")

-- The types of values that are mentioned: those of the edited class, the goal, literals, variables, candidates and lambdas.
abbrev pub site_types : Scene → List Erased
site_types v = of_class (edited v) ∷ denoted v v.site.wanted ∷ of_base Int ∷ of_base Boolean ∷ string_type ∷ map (λ l. denoted v l.kind) v.site.locals

abbrev pub types_in : Option Erased → List Erased
types_in None = []
types_in (Some t) = t ∷ []

abbrev pub member_types : Member → List Erased
member_types m = of_class m.owner ∷ (types_in (value m) ++ m.params)

abbrev pub face_types : Face → List Erased
face_types f = of_class f.name ∷ (types_in f.result ++ f.params)

abbrev pub mentioned : Scene → List Member → List Face → List Erased
mentioned v ms fs = site_types v ++ flat_map member_types ms ++ flat_map face_types fs

-- In rising byte order of their descriptors, each once.
unfoldable pub types_of : Scene → List Member → List Face → List Erased
types_of v ms fs = sorted field (mentioned v ms fs)

-- One of these members or of these lambdas gives no value: `void` is mentioned.
unfoldable pub mentions_void : List Member → List Face → Bool
mentions_void ms fs = list_any (λ m. not (is_some (value m))) ms || list_any (λ f. not (is_some f.result)) fs

-- The place of a type among these.
unfoldable pub place_in : List Erased → Erased → ℕ
place_in [] t = 0
place_in (u ∷ us) t = if same_type t u then 0 else suc (place_in us t)

abbrev pub is_below_at : Scene → List Erased → ℕ → ℕ → Bool
is_below_at v ts i j = v.below (get_or ts i (of_base Int)) (get_or ts j (of_base Int))

-- The types of values of an environment.
abbrev pub environment_types : Scene → List Erased
environment_types v = types_of v (after_three v) (faces v)
