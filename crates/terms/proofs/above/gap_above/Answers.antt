use Rattle.std.proofs.Common.{◌≡◌, get_or, true, false, rules, tests}
use Rattle.terms.proofs.Closings.{closed-none}
use Rattle.terms.proofs.above.gap_above.Goals as goal

pub returns-then-is_told : goal.returns-then-is_told
returns-then-is_told c =
    let told : get_or c.args.closed.now c.args.lower false ≡ true = search (rules, tests) in
    closed-none c.args.rows.now c.args.lower (c.requires.closed.told c.args.lower told)
