use Rattle.std.proofs.Common.{refl, arith}
use Rattle.std.proofs.lemmas.Option.{slice_get_read}
use Rattle.plain_listing.proofs.Finding.{keeps-both, met-next}
use Rattle.plain_listing.proofs.contexts.add_args.Goals as goal

pub loop-i-preserved : goal.loop-i-preserved
loop-i-preserved c = record {
  keeps = keeps-both _ _ _ c.loop-i.invariant.keeps c.in_ok-add_arg.ensures.keeps;
  shallow = λ depth low before. c.in_ok-add_arg.ensures.shallow depth low (c.loop-i.invariant.shallow depth low before);
  met = met-next _ _ _ _ _ c.loop-i.i c.index-wanted-i.result (slice_get_read _ _ c.loop-i.i c.index-wanted-i.result refl (omega arith) c.index-wanted-i.is) c.in_ok-add_arg.ensures.keeps c.loop-i.invariant.met c.in_ok-add_arg.ensures.met;
}
