-- Crowding, by the types at or below an owner.
use Rattle.std.specs.Prelude.{Bool, ◌&&◌, ◌==◌, List, length}
use Rattle.std.specs.List.{list_any, filter}
use Rattle.type_names.specs.declared.kinds.Erased.{Erased}
use Rattle.offers.specs.declared.member.Member.{Member}
use Rattle.offers.specs.Scenes.{Scene, of_class, at_or_below}
use Rattle.offers.specs.Omissions.{is_kin, is_other}

-- Another member of one kind, name and number of parameters.
abbrev pub is_rival : Member → Member → Bool
is_rival m n = (is_kin m n && (length m.params == length n.params)) && is_other m n

-- Those of these types that are at or below a type, and whether there are any.
abbrev pub types_under : Scene → List Erased → Erased → List Erased
types_under v ts high = filter (λ t. at_or_below v t high) ts

abbrev pub has_under : Scene → List Erased → Erased → Bool
has_under v ts high = list_any (λ t. at_or_below v t high) ts

-- A rival, with one of these types at or below its owner.
abbrev pub is_met : Scene → List Erased → Member → Member → Bool
is_met v under m n = is_rival m n && has_under v under (of_class n.owner)
