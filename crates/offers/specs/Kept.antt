-- What is kept while members are asked whether they are crowded, and classes for the interfaces above them.
use Rattle.std.specs.Prelude.{◌≡◌, ℕ, List, map, slice_get, Some}
use Rattle.type_names.specs.declared.kinds.Erased.{Erased}
use Rattle.offers.specs.declared.crowds.OwnedMembers.{OwnedMembers}
use Rattle.offers.specs.declared.crowds.BelowOwner.{BelowOwner}
use Rattle.offers.specs.declared.crowds.Crowding.{Crowding}
use Rattle.offers.specs.declared.interfaces.KnownInterfaces.{KnownInterfaces}
use Rattle.offers.specs.declared.member.Member.{Member}
use Rattle.offers.specs.Scenes.{of_class}
use Rattle.offers.specs.Views.{Outlook, scene}
use Rattle.offers.specs.Placing.{IsPlaced}
use Rattle.offers.specs.Rivals.{types_under}
use Rattle.offers.specs.Missing.{interfaces}
use Rattle.offers.specs.Grouping.{AreGroups}
use Rattle.offers.specs.Hashing.{count_hash}

-- What stands at a place of the first list stands there in the second.
abbrev pub IsKeptIn : List Erased → List Erased → Type 0
IsKeptIn old new = (i : ℕ) (kind : Erased) → slice_get old i ≡ Some kind → slice_get new i ≡ Some kind

-- For each member the place of its owner's type among these.
abbrev pub AreOwners : List Member → List Erased → List ℕ → Type 0
AreOwners members kinds places = map (slice_get kinds) places ≡ map (λ m. Some (of_class m.owner)) members

-- The owners are those of the members, each with its place.
pub record AreOwned (o : Outlook) (all : OwnedMembers) : Type 0 where
  pub owners : AreOwners all.members all.owners.types all.at.items
  pub placed : IsPlaced o all.owners

-- The types are those of these that are at or below the owner, each with the place of its class.
pub record IsKept (o : Outlook) (ts : List Erased) (below : BelowOwner) : Type 0 where
  pub types : below.types.types ≡ types_under (scene o) ts (of_class below.owner)
  pub placed : IsPlaced o below.types

-- All types have the places of their classes, the members those of their owners and groups by their names and numbers
-- of parameters, and the types at or below one owner are kept.
pub record IsCrowding (o : Outlook) (c : Crowding) : Type 0 where
  pub types : IsPlaced o c.types
  pub members : AreOwned o c.members
  pub groups : AreGroups (map count_hash c.members.members) c.groups
  pub kept : IsKept o c.types.types c.below

-- The classes are the known interfaces, each with the place of its type.
pub record AreInterfaces (o : Outlook) (all : KnownInterfaces) : Type 0 where
  pub classes : all.classes ≡ interfaces (scene o)
  pub kinds : all.kinds.types ≡ map (λ c. of_class c.name) all.classes
  pub placed : IsPlaced o all.kinds
