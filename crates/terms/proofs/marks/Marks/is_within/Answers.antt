use Rattle.std.proofs.Common.{◌≡◌, ◌==◌, ◌+◌, true, false, get_or, rules, tests}
use Rattle.std.specs.List.{list_all}
use Rattle.terms.proofs.Closings.{covered-more, marked-within}
use Rattle.terms.proofs.marks.Marks.is_within.Goals as goal

pub returns-then-is_told-clause-right : goal.returns-then-is_told-clause-right
returns-then-is_told-clause-right c =
    let m = c.args.self.now in
    let all : list_all (λ x. get_or m.members.items x 0 == (c.args.lower + 1)) c.row-row.result.now ≡ true = search (rules, tests) in
    let told : get_or m.closed.items c.args.upper false ≡ true = search (rules, tests) in
    let within = marked-within c.args.rows.now m.members.items c.row-row.result.now c.args.lower c.args.upper c.requires.right.members c.row-row.ensures.row all in
    record {
      members = c.requires.right.members;
      covered = covered-more c.args.rows.now m.covered.items c.put_marks.new.marks.items c.row-row.result.now c.args.lower c.args.upper c.requires.right.covered c.row-row.ensures.row within (c.requires.right.closed.told c.args.upper told) c.put_marks.ensures;
      closed = c.requires.right.closed;
    }

pub returns-then-is_told-clause-within : goal.returns-then-is_told-clause-within
returns-then-is_told-clause-within c = λ _.
    let m = c.args.self.now in
    let all : list_all (λ x. get_or m.members.items x 0 == (c.args.lower + 1)) c.row-row.result.now ≡ true = search (rules, tests) in
    marked-within c.args.rows.now m.members.items c.row-row.result.now c.args.lower c.args.upper c.requires.right.members c.row-row.ensures.row all

pub returns-else-is_told-clause-within : goal.returns-else-is_told-clause-within
returns-else-is_told-clause-within c = λ _.
    let m = c.args.self.now in
    let all : list_all (λ x. get_or m.members.items x 0 == (c.args.lower + 1)) c.row-row.result.now ≡ true = search (rules, tests) in
    marked-within c.args.rows.now m.members.items c.row-row.result.now c.args.lower c.args.upper c.requires.right.members c.row-row.ensures.row all
