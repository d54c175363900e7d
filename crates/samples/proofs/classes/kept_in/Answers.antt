use Rattle.std.proofs.Common.{◌≡◌, IfOk, subst}
use Rattle.class_summary.specs.Summaries.{summary_of}
use Rattle.samples.proofs.classes.kept_in.Goals as goal

pub returns-in-Ok : goal.returns-in-Ok
returns-in-Ok c = record {
  exact = λ shape file. subst (λ s. IfOk c.from_shape.result (λ kept. kept ≡ summary_of s))
      (c.one_shape.ensures.one c.args.bytes.now c.in-Ok.shape shape c.in-Ok.ensures.found file) c.from_shape.ensures.exact;
}
