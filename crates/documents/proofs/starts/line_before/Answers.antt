use Rattle.std.proofs.Common.{arith, ◌<◌, ◌≤◌, ◌-◌, length, ◌∙◌, sym, ap, Some, get_or}
use Rattle.std.proofs.lemmas.List.{length-drop}
use Rattle.std.specs.Str.{chars}
use Rattle.documents.proofs.Moves.{at-before, count-some, few_lines, line-at, rising-known}
use Rattle.documents.proofs.starts.line_before.Goals as goal

pub count_upto-line-requires : goal.count_upto-line-requires
count_upto-line-requires c = rising-known c.args.text.now c.args.starts.now (c.requires.starts c.requires.some)

pub overflow_cast-result : goal.overflow_cast-result
overflow_cast-result c =
    let e = c.requires.starts c.requires.some in
    let some : 0 < c.count_upto-line.result = count-some c.args.text.now c.args.starts.now c.count_upto-line.result c.args.offset e c.count_upto-line.ensures.after in
    let lt : c.count_upto-line.result - 1 < length c.args.starts.now = omega (arith, some, c.count_upto-line.ensures.within) in
    let few = few_lines c.args.text.now (c.count_upto-line.result - 1) (get_or c.args.starts.now (c.count_upto-line.result - 1) 0) c.utf8.text (line-at c.args.text.now c.args.starts.now (c.count_upto-line.result - 1) c.utf8.text e lt) in
    omega (arith, few, c.requires.size)

pub from_byte-requires : goal.from_byte-requires
from_byte-requires c =
    let e = c.requires.starts c.requires.some in
    let some : 0 < c.count_upto-line.result = count-some c.args.text.now c.args.starts.now c.count_upto-line.result c.args.offset e c.count_upto-line.ensures.after in
    let lt : c.count_upto-line.result - 1 < length c.args.starts.now = omega (arith, some, c.count_upto-line.ensures.within) in
    (line-at c.args.text.now c.args.starts.now (c.count_upto-line.result - 1) c.utf8.text e lt).boundary

pub returns-clause-before : goal.returns-clause-before
returns-clause-before c =
    let e = c.requires.starts c.requires.some in
    let some : 0 < c.count_upto-line.result = count-some c.args.text.now c.args.starts.now c.count_upto-line.result c.args.offset e c.count_upto-line.ensures.after in
    let at = get_or c.args.starts.now (c.count_upto-line.result - 1) 0 in
    let le : at ≤ c.args.offset = at-before c.args.starts.now c.count_upto-line.result c.args.offset some c.count_upto-line.ensures.within c.count_upto-line.ensures.before in
    omega (arith, le, ap length c.from_byte.ensures.value, length-drop at c.args.text.now)

pub returns-clause-few : goal.returns-clause-few
returns-clause-few c =
    let e = c.requires.starts c.requires.some in
    let some : 0 < c.count_upto-line.result = count-some c.args.text.now c.args.starts.now c.count_upto-line.result c.args.offset e c.count_upto-line.ensures.after in
    let lt : c.count_upto-line.result - 1 < length c.args.starts.now = omega (arith, some, c.count_upto-line.ensures.within) in
    few_lines c.args.text.now (c.count_upto-line.result - 1) (get_or c.args.starts.now (c.count_upto-line.result - 1) 0) c.utf8.text (line-at c.args.text.now c.args.starts.now (c.count_upto-line.result - 1) c.utf8.text e lt)

pub returns-clause-value : goal.returns-clause-value
returns-clause-value c =
    let e = c.requires.starts c.requires.some in
    let some : 0 < c.count_upto-line.result = count-some c.args.text.now c.args.starts.now c.count_upto-line.result c.args.offset e c.count_upto-line.ensures.after in
    let lt : c.count_upto-line.result - 1 < length c.args.starts.now = omega (arith, some, c.count_upto-line.ensures.within) in
    (line-at c.args.text.now c.args.starts.now (c.count_upto-line.result - 1) c.utf8.text e lt).is ∙ ap (λ x. Some (chars x)) (sym c.from_byte.ensures.value)
