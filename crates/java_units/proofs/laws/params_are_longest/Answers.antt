use Rattle.java_units.proofs.ParamGrammar.{params_are_longest}
use Rattle.java_units.proofs.ParamLists.{param_lists_are_longest}
use Rattle.java_units.proofs.laws.params_are_longest.Goals as goal

pub returns : goal.returns
returns c = record { one = params_are_longest; lists = param_lists_are_longest }
