use Rattle.std.proofs.Common.{◌≤◌, ◌++◌, length, arith}
use Rattle.version_board.proofs.Prefixes.{prefix_whole}
use Rattle.version_board.proofs.publishing.learns_whole.Goals as goal

pub returns-clause-whole : goal.returns-clause-whole
returns-clause-whole g c is_true =
    let seen = c.learn.new.self.seen in
    let told = g.J.Naming.first ++ c.args.receipt.prefix in
    let short : length seen ≤ length told = omega (arith, c.args.receipt.counted, c.seen.ensures, c.if-seen-number.false) in
    prefix_whole told seen c.learn.ensures.told short
