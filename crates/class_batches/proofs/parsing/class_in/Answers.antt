use Rattle.std.proofs.Common.{◌≡◌, ◌∙◌, ap, Result, Ok, Err}
use Rattle.class_shape.specs.Violations.{first_violation}
use Rattle.class_shape.specs.declared.shapes.ClassShape.{ClassShape}
use Rattle.class_pool.specs.declared.fault.ClassFault.{ClassFault}
use Rattle.class_batches.proofs.Gathering.{none-broken}
use Rattle.class_batches.proofs.parsing.class_in.Goals as goal

pub returns-in_ok-from_shape-in-Ok-clause-fault : goal.returns-in_ok-from_shape-in-Ok-clause-fault
returns-in_ok-from_shape-in-Ok-clause-fault c =
    none-broken (first_violation c.args.file.now.1) c.args.file.now.0 (λ why e.
    let no = c.in-Ok.ensures.refused why (ap first_violation c.bytes.ensures.is ∙ e) in
    cc)
