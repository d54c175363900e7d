use Rattle.type_names.proofs.MethodLaws.{read_back, only_one}
use Rattle.type_names.proofs.printing.method_descriptor.Goals as goal

pub returns-clause-read_back : goal.returns-clause-read_back
returns-clause-read_back c = read_back _ _ c.method_text.ensures

pub returns-clause-only_one : goal.returns-clause-only_one
returns-clause-only_one c = λ text read. only_one _ _ text c.method_text.ensures read
