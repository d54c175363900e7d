use Rattle.std.proofs.Common.{rules}
use Rattle.start_text.proofs.Batching.{finish_sound, finish_wrong, finish_classes}
use Rattle.start_text.proofs.batches.Batches.finish.Goals as goal

pub returns-in-Ok-clause-fault : goal.returns-in-Ok-clause-fault
returns-in-Ok-clause-fault g c = λ before h. finish_sound before c.args.self c.self.inside.classes c.self.inside.batch (search rules) h c.in-Ok.ensures.fault

pub returns-in-Ok-clause-classes : goal.returns-in-Ok-clause-classes
returns-in-Ok-clause-classes g c = λ before h. finish_classes before c.args.self c.self.inside.classes c.read_batch.new.classes c.self.inside.batch (search rules) h c.in-Ok.ensures.classes

pub returns-in-Err-clause-fault : goal.returns-in-Err-clause-fault
returns-in-Err-clause-fault g c = λ before h. finish_wrong before c.args.self c.self.inside.classes c.self.inside.batch c.in-Err.fault (search rules) h c.in-Err.ensures.fault
