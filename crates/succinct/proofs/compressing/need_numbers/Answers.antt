use Rattle.std.proofs.Common.{rules}
use Rattle.succinct.specs.Compression.{need_of}
use Rattle.succinct.proofs.Needs.{named-more, new_needs, grown-trans}
use Rattle.succinct.proofs.compressing.need_numbers.Goals as goal

pub loop-arg-preserved : goal.loop-arg-preserved
loop-arg-preserved c = record {
  named = named-more need_of _ _ _ _ _ c.loop-arg.arg-index c.in_ok-need_number.field-0 c.arg-item.result c.in_ok-need.need (search rules) c.arg-item.is c.need_number.ensures.grown c.in_ok-need_number.ensures.stands c.in_ok-need.ensures.value c.in_ok-push.ensures.items c.loop-arg.invariant.named;
  grown = grown-trans _ _ _ c.loop-arg.invariant.grown c.need_number.ensures.grown;
  no_more = new_needs _ _ _ _ _ c.in_ok-need_number.field-0 c.in_ok-push.ensures.items c.loop-arg.invariant.no_more c.in_ok-need_number.ensures.one_more;
}
