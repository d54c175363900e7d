use Rattle.std.proofs.Common.{sym, subst}
use Rattle.std.specs.Prelude.{IfOk, IsTrue, ◌↔◌}
use Rattle.class_shape.specs.declared.shapes.MemberKind.{MemberKind}
use Rattle.class_shape.specs.Shapes.{IsDescriptor}
use Rattle.workload.proofs.checks.is_descriptor.Goals as goal

pub returns-in-Field : goal.returns-in-Field
returns-in-Field c = subst (λ (kind : MemberKind). IfOk c.is_field.result (λ b. IsTrue b ↔ IsDescriptor kind c.args.text.now)) (sym c.in-Field.is) c.is_field.ensures

pub returns-in-Method : goal.returns-in-Method
returns-in-Method c = subst (λ (kind : MemberKind). IfOk c.is_method.result (λ b. IsTrue b ↔ IsDescriptor kind c.args.text.now)) (sym c.in-Method.is) c.is_method.ensures
