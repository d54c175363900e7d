use Rattle.std.proofs.Common.{rules}
use Rattle.start_text.proofs.Batching.{stop_sound, stop_wrong}
use Rattle.start_text.proofs.batches.Batches.stop.Goals as goal

pub returns-clause-first : goal.returns-clause-first
returns-clause-first g c = λ before h. stop_sound before c.args.self.now c.self.inside.classes c.self.inside.batch c.args.fault (search rules) h c.in-Ok.ensures.fault

pub returns-in-Err-clause-first : goal.returns-in-Err-clause-first
returns-in-Err-clause-first g c = λ before h.
    stop_wrong {T = Unit {0}} before c.args.self.now c.self.inside.classes c.self.inside.batch c.args.fault c.in-Err.earlier (search rules) h c.in-Err.ensures.fault c.in-Err.ensures.inside
