use Rattle.std.proofs.Common.{◌≡◌, take}
use Rattle.std.specs.List.{flat_map}
use Rattle.offers.specs.Omissions.{field_text}
use Rattle.offers.specs.Views.{scene}
use Rattle.offers.proofs.hidden.field_texts.Given as goal

abbrev pub invariant-loop-member : goal.invariant-loop-member
invariant-loop-member l = l.all ≡ flat_map (field_text (scene l.spellings)) (take l.member-index l.members)
