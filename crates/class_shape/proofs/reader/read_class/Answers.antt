use Rattle.std.proofs.Common.{arith}
use Rattle.class_shape.proofs.ShapeLaws.{is_found, is_only, is_first, is_refused}
use Rattle.class_shape.proofs.CauseLaws.{want_has_no_place}
use Rattle.class_shape.proofs.reader.read_class.Goals as goal

pub returns-clause-found : goal.returns-clause-found
returns-clause-found c = is_found _ _ (λ i. omega (arith, c.type_inv.bytes i)) c.shape_in.ensures

pub returns-clause-only : goal.returns-clause-only
returns-clause-only c = λ shape is. is_only _ _ shape is c.shape_in.ensures

pub returns-clause-first : goal.returns-clause-first
returns-clause-first c = is_first _ _ c.shape_in.ensures

pub returns-clause-refused : goal.returns-clause-refused
returns-clause-refused c = λ fault is. is_refused _ _ fault is c.shape_in.ensures

pub returns-clause-memory : goal.returns-clause-memory
returns-clause-memory c = want_has_no_place _ _ c.shape_in.ensures
