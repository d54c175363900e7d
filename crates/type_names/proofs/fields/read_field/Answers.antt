use Rattle.type_names.proofs.FieldLaws.{is_found, is_only}
use Rattle.type_names.proofs.fields.read_field.Goals as goal

pub returns-clause-found : goal.returns-clause-found
returns-clause-found c = is_found _ _ c.whole_field.ensures

pub returns-clause-only : goal.returns-clause-only
returns-clause-only c = λ kind fits same. is_only _ _ kind fits same c.whole_field.ensures
