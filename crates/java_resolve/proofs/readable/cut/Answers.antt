use Rattle.std.proofs.Common.{rules, ◌≡◌, chars, []}
use Rattle.java_resolve.proofs.Reading.{char_shorter}
use Rattle.java_resolve.proofs.Readables.{cut_start, cut_end}
use Rattle.java_resolve.proofs.readable.cut.Goals as goal

pub loop-c-init : goal.loop-c-init
loop-c-init c = record {
  is = (cut_start c.new-base.result (chars c.args.text.now) c.new-base.ensures).0;
  lacks = (cut_start c.new-base.result (chars c.args.text.now) c.new-base.ensures).1;
  text = c.utf8.text;
}

pub loop-c-smaller : goal.loop-c-smaller
loop-c-smaller c = char_shorter c.loop-c.rest.now c.in-Some.more.now c.in-Some.c c.in-Some.ensures.1

pub returns : goal.returns
returns c =
    let end : c.loop-c.rest.now ≡ [] = search rules in
    cut_end (chars c.args.text.now) c.loop-c.base c.loop-c.rest.now c.loop-c.invariant.is c.loop-c.invariant.lacks end
