use Rattle.type_names.proofs.MethodLaws.{is_found, is_only}
use Rattle.type_names.proofs.methods.read_method.Goals as goal

pub returns-clause-found : goal.returns-clause-found
returns-clause-found c = is_found _ _ c.whole_method.ensures

pub returns-clause-only : goal.returns-clause-only
returns-clause-only c = λ kind fits same. is_only _ _ kind fits same c.whole_method.ensures
