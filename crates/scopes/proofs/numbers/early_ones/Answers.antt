use Rattle.std.proofs.Common.{rules, arith, ◌≡◌, true, false}
use Rattle.scopes.specs.Numbers.{is_early}
use Rattle.scopes.proofs.Listed.{early-on, early-stop, early-end}
use Rattle.scopes.proofs.numbers.early_ones.Goals as goal

pub returns-then-not-is_early-clause-exact : goal.returns-then-not-is_early-clause-exact
returns-then-not-is_early-clause-exact c =
    let late : is_early c.index-types-i.result ≡ false = search rules in
    early-stop c.args.types.now c.loop-i.i c.index-types-i.result (search (rules, arith)) c.index-types-i.is c.loop-i.invariant late

pub loop-i-preserved : goal.loop-i-preserved
loop-i-preserved c =
    let early : is_early c.index-types-i.result ≡ true = search rules in
    early-on c.args.types.now c.loop-i.i c.index-types-i.result (search (rules, arith)) c.index-types-i.is c.loop-i.invariant early

pub returns-clause-exact : goal.returns-clause-exact
returns-clause-exact c = early-end c.args.types.now c.loop-i.i (search (rules, arith)) (search (rules, arith)) c.loop-i.invariant
