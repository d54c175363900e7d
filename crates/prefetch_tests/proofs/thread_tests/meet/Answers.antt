use Rattle.prefetch_tests.proofs.Meetings.{still_all}
use Rattle.prefetch_tests.proofs.thread_tests.meet.Goals as goal

pub settle-requires : goal.settle-requires
settle-requires g c = record {
  all = rw (c.in_ok-senders.ensures.items, c.in_ok-workers.ensures.items)
      (still_all _ _ _ _ _ _ _ _ _ _ c.requires.all c.in-Some.ensures.all c.in-Some-two_of.ensures.all c.all_at_once.ensures.first c.all_at_once.ensures.second c.all_at_once.ensures.one c.all_at_once.ensures.other);
}
