use Rattle.std.proofs.Common.{rules, ◌≡◌, ap, ◌∙◌}
use Rattle.std.specs.Str.{chars}
use Rattle.documents.specs.Places.{from_line}
use Rattle.documents.proofs.LineStarts.{line-less, line-no_more}
use Rattle.documents.proofs.Rests.{from_line-zero, rest_drop}
use Rattle.documents.proofs.lines.from_line.Goals as goal

pub returns-in_default-clause-value : goal.returns-in_default-clause-value
returns-in_default-clause-value c = c.loop-lines.invariant.same ∙ line-no_more c.loop-lines.lines (chars c.loop-lines.rest.now) c.loop-lines-test.true c.in_default.ensures.value

pub loop-lines-preserved : goal.loop-lines-preserved
loop-lines-preserved c = record {
  same = c.loop-lines.invariant.same ∙ line-less c.loop-lines.lines (chars c.loop-lines.rest.now) (chars c.in-Some.more.now) c.loop-lines-test.true c.in-Some.ensures.value;
  rest = rest_drop c.args.text.now c.loop-lines.rest.now c.in-Some.more.now c.loop-lines.invariant.rest c.in-Some.ensures.rest;
  text = search rules;
}

pub returns-clause-value : goal.returns-clause-value
returns-clause-value c =
    let none : c.loop-lines.lines ≡ 0 = search rules in
    c.loop-lines.invariant.same ∙ ap (λ n. from_line n (chars c.loop-lines.rest.now)) none ∙ from_line-zero (chars c.loop-lines.rest.now)
