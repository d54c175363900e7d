use Rattle.std.proofs.Common.{rules, tests}
use Rattle.documents.proofs.Moves.{found-all, found-more, found-start, none-never, none-past, slice-after, slice-never}
use Rattle.documents.proofs.lines.find_ends.Goals as goal

pub loop-end-init : goal.loop-end-init
loop-end-init c = record { within = search rules; ends = found-start c.args.text.now c.args.ends.now.items c.args.from c.args.to }

pub loop-end-preserved : goal.loop-end-preserved
loop-end-preserved c = record {
  within = c.if-at-to.false;
  ends = found-more c.args.text.now c.args.ends.now.items c.loop-end.ends.items c.push.new.self.items c.args.from c.loop-end.at c.args.to c.in-Some.end c.loop-end.invariant.ends (slice-after c.args.text.now c.loop-end.at c.in-Some.end c.in-Some.ensures) c.if-at-to.false (search (rules, tests));
}

pub returns-then-at-to : goal.returns-then-at-to
returns-then-at-to c = λ done. found-all c.args.text.now c.args.ends.now.items c.loop-end.ends.items c.args.from c.loop-end.at c.args.to c.loop-end.invariant.ends
    (none-past c.args.text.now c.loop-end.at c.args.to c.in-Some.end (slice-after c.args.text.now c.loop-end.at c.in-Some.end c.in-Some.ensures) (search rules)) c.requires.range c.requires.to

pub returns : goal.returns
returns c = λ done. found-all c.args.text.now c.args.ends.now.items c.loop-end.ends.items c.args.from c.loop-end.at c.args.to c.loop-end.invariant.ends
    (none-never c.args.text.now c.loop-end.at c.args.to (slice-never c.args.text.now c.loop-end.at c.in_default.ensures)) c.requires.range c.requires.to
