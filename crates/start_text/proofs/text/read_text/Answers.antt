use Rattle.std.proofs.Common.{inr}
use Rattle.start_text.proofs.Loads.{text-missing, text-too_long}
use Rattle.start_text.proofs.text.read_text.Goals as goal

pub returns-in-Bytes-clause-shelf : goal.returns-in-Bytes-clause-shelf
returns-in-Bytes-clause-shelf g c = record {
  unchanged = c.load.ensures.unchanged;
  later = c.load.ensures.later;
  cause = λ e. absurd (c.text_of.ensures.inside e);
}

pub returns-in-Missing-clause-fault : goal.returns-in-Missing-clause-fault
returns-in-Missing-clause-fault g c = λ files e. inr (text-missing (g.H.Shelf.holds c.args.shelf.now) files c.args.name.now c.in_ok-load.field-0 c.load.new.out.items c.in-Missing.is e c.in_ok-load.ensures.answer)

pub returns-in-TooLong-clause-fault : goal.returns-in-TooLong-clause-fault
returns-in-TooLong-clause-fault g c = λ files e. inr (text-too_long (g.H.Shelf.holds c.args.shelf.now) files c.args.name.now c.in_ok-load.field-0 c.load.new.out.items c.in-TooLong.field-0 c.in-TooLong.is e c.in_ok-load.ensures.answer)
