use Rattle.std.proofs.Common.{◌≡◌, take}
use Rattle.std.specs.Prelude.{sum_by}
use Rattle.samples.specs.Lines.{text_length}
use Rattle.samples.proofs.page.text_lengths.Given as goal

abbrev pub invariant-loop-item : goal.invariant-loop-item
invariant-loop-item l = l.sum ≡ sum_by text_length (take l.item-index l.items)
