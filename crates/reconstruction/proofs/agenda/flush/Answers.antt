use Rattle.std.proofs.Common.{◌∙◌, arith}
use Rattle.reconstruction.proofs.Seeking.{one_moved}
use Rattle.reconstruction.proofs.agenda.flush.Goals as goal

pub loop-key-preserved : goal.loop-key-preserved
loop-key-preserved c = record {
  room = omega (arith, c.loop-key.invariant.room, c.in-Some.ensures.len, c.push.ensures.one_place_taken);
  moved = one_moved _ c.loop-key.aside.items c.pop.new.self.items c.loop-key.queue.items c.push.new.self.items (c.in-Some.key, c.in-Some.item) c.loop-key.invariant.moved c.in-Some.ensures.items c.push.ensures.added;
  pops = c.push.ensures.pops ∙ c.loop-key.invariant.pops;
}
