use Rattle.std.proofs.Common.{◌∷◌, [], sym, subst, refl, Some, Err}
use Rattle.counting.specs.Counted.{CountsLines}
use Rattle.counting.specs.declared.fault.CountFault.{CountFault}
use Rattle.counting.proofs.FileUses.{counts-file, counts-code}
use Rattle.counting.proofs.files.count_class.Goals as goal

pub returns-in-Ok-clause-counted : goal.returns-in-Ok-clause-counted
returns-in-Ok-clause-counted c =
    counts-file c.args.line c.args.bytes.now c.args.counts.now c.count_file.new.counts c.in_ok-shape_of.ensures.fault c.in-Ok.ensures.added c.in-Ok.ensures.only c.in-Ok.ensures.refused

pub returns-in-Err-clause-counted : goal.returns-in-Err-clause-counted
returns-in-Err-clause-counted c =
    let h = counts-code c.args.line c.args.bytes.now c.args.counts.now c.count_file.new.counts c.in-Err.fault c.in-Err.fault.cause refl c.in_ok-shape_of.ensures.fault c.in-Err.ensures.first c.in-Err.ensures.only c.in-Err.ensures.refused in
    subst (λ (f : CountFault). CountsLines ((c.args.line, Some c.args.bytes.now) ∷ []) c.args.counts.now c.count_file.new.counts (Err f)) (sym c.no_code.ensures) h
