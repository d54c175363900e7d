use Rattle.std.proofs.Common.{◌≡◌, take}
use Rattle.std.specs.List.{filter}
use Rattle.offers.specs.Omissions.{is_written, is_crowded}
use Rattle.offers.specs.Kept.{IsCrowding}
use Rattle.offers.specs.Views.{scene}
use Rattle.offers.proofs.written.after_four.Given as goal

abbrev pub invariant-loop-member : goal.invariant-loop-member
invariant-loop-member l = record {
  all : l.all ≡ filter (λ m. is_written (scene l.spellings) (is_crowded (scene l.spellings) l.types l.members m) m) (take l.member-index l.members);
  types : l.crowding.types.types ≡ l.types;
  members : l.crowding.members.members ≡ l.members;
  kept : IsCrowding l.spellings l.crowding;
}
