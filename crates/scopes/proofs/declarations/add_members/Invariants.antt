use Rattle.std.proofs.Common.{◌≡◌, ◌++◌, map, take}
use Rattle.offers.specs.Kept.{IsCrowding}
use Rattle.offers.specs.Views.{scene}
use Rattle.scopes.specs.Declarations.{member_decl}
use Rattle.scopes.proofs.declarations.add_members.Given as goal

abbrev pub invariant-loop-member : goal.invariant-loop-member
invariant-loop-member l = record {
  all : l.all ≡ l.fn.all ++ map (member_decl (scene l.spellings) l.numbers l.members) (take l.member-index l.left);
  types : l.crowding.types.types ≡ l.numbers.types;
  members : l.crowding.members.members ≡ l.members;
  kept : IsCrowding l.spellings l.crowding;
}
