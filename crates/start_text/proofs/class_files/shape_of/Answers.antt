use Rattle.std.proofs.Common.{◌≡◌, ap, sym, subst, ◌⊎◌, Err, Some}
use Rattle.start_text.specs.Faults.{IsOutside}
use Rattle.start_text.specs.Starts.{file_fault}
use Rattle.start_text.specs.declared.fault.StartFault.{StartFault}
use Rattle.start_text.proofs.Loads.{class-wrong, class-inside}
use Rattle.start_text.proofs.class_files.shape_of.Goals as goal

pub returns-in-Err-clause-fault : goal.returns-in-Err-clause-fault
returns-in-Err-clause-fault c =
    let wrong = class-wrong c.args.line c.args.bytes.now c.in-Err.fault c.in-Err.fault.cause c.requires c.in-Err.ensures.first in
    subst (λ (f : StartFault). IsOutside f ⊎ (file_fault c.args.line (Some c.args.bytes.now) ≡ Some f)) (sym c.no_class.ensures) wrong

pub returns-in-Err-clause-inside : goal.returns-in-Err-clause-inside
returns-in-Err-clause-inside c = λ e. class-inside c.args.line c.in-Err.fault c.in-Err.fault.cause _ (ap Err c.no_class.ensures) e
