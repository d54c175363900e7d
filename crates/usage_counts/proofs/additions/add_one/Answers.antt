use Rattle.std.proofs.Common.{rules, sym, arith}
use Rattle.usage_counts.proofs.AddedLaws.{raised-there}
use Rattle.usage_counts.proofs.additions.add_one.Goals as goal

pub returns-in-Some : goal.returns-in-Some
returns-in-Some c =
    let w = c.saturating_add.result in
    raised-there c.args.uses.now (c.get_mut.follows.lender w) c.as_str.result.now c.args.tally.now c.in-Some.number.now w c.as_str.ensures ((c.get_mut.follows.holds w).3 (search rules)) (omega arith) c.saturating_add.ensures (sym c.in-Some.ensures.value)
