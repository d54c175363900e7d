use Rattle.std.proofs.Common.{◌∙◌, sym, ap, Some, subst}
use Rattle.std.specs.Str.{chars}
use Rattle.documents.specs.Places.{EndsAfter, EndsNever}
use Rattle.documents.proofs.Begins.{second-line, second-none}
use Rattle.documents.proofs.lines.second_line.Goals as goal

pub returns-in_default-clause-value : goal.returns-in_default-clause-value
returns-in_default-clause-value c = second-none c.args.text.now c.utf8.text (subst (λ x. EndsNever x) c.as_bytes.ensures.value c.in_default.ensures)

pub returns-clause-value : goal.returns-clause-value
returns-clause-value c =
    (second-line c.args.text.now c.in-Some.end c.utf8.text (subst (λ x. EndsAfter x c.in-Some.end) c.as_bytes.ensures.value c.in-Some.ensures)).is
    ∙ ap (λ x. Some (chars x)) (sym c.range_from.ensures.value)

pub range_from-requires : goal.range_from-requires
range_from-requires c = λ some. (second-line c.args.text.now c.in-Some.end c.utf8.text (subst (λ x. EndsAfter x c.in-Some.end) c.as_bytes.ensures.value c.in-Some.ensures)).boundary
