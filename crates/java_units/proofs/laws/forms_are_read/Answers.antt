use Rattle.java_units.proofs.TypeReading.{types_are_read}
use Rattle.java_units.proofs.ParamReading.{params_are_read}
use Rattle.java_units.proofs.ListReading.{vars_are_read, param_lists_are_read}
use Rattle.java_units.proofs.laws.forms_are_read.Goals as goal

pub returns : goal.returns
returns c = record { types = types_are_read; params = params_are_read; vars = vars_are_read; lists = param_lists_are_read }
