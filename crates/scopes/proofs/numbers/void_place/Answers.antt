use Rattle.std.proofs.Common.{rules}
use Rattle.scopes.proofs.Listed.{void-at, plain-at}
use Rattle.scopes.proofs.numbers.void_place.Goals as goal

pub returns-then-void-clause-exact : goal.returns-then-void-clause-exact
returns-then-void-clause-exact c = void-at c.args.types.now c.args.void c.early_ones.result (search rules) c.early_ones.ensures.exact

pub returns-clause-exact : goal.returns-clause-exact
returns-clause-exact c = plain-at c.args.types.now c.args.void (search rules)
