use Rattle.std.proofs.Common.{ap}
use Rattle.prefetch.specs.Starts.{Reach}
use Rattle.prefetch.proofs.Starting.{starts_as}
use Rattle.prefetch.proofs.start.start_ahead.Goals as goal

pub returns : goal.returns
returns g c = record {
  start = starts_as _ _ c.args.senders c.args.workers c.args.capacity _ _ _ _ c.requires.senders.1 c.requires.workers.0 c.requires.workers.1 c.in_ok-rest.ensures.new.0
      c.in_ok-senders.ensures.senders (ap (λ (r : Reach). r.queue) c.in_ok-senders.ensures.rest) (ap (λ (r : Reach). r.knows.parts) c.in_ok-senders.ensures.rest) c.in_ok-workers.ensures.workers;
}
