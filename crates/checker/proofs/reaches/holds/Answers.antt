use Rattle.std.proofs.Common.{rules}
use Rattle.checker.proofs.Meets.{floor_vars}
use Rattle.checker.proofs.reaches.holds.Goals as goal

pub returns-then-not-variables_reach-clause-no : goal.returns-then-not-variables_reach-clause-no
returns-then-not-variables_reach-clause-no c = λ e is. floor_vars c.args.env.now c.args.floors.now c.args.floor.now (search rules) is
