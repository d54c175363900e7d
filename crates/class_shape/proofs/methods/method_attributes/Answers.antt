use Rattle.class_shape.proofs.PlaceLaws.{is_found}
use Rattle.class_shape.proofs.methods.method_attributes.Goals as goal

pub returns-clause-found : goal.returns-clause-found
returns-clause-found c = λ h b is. is_found _ _ _ h b is c.methods_in.ensures
