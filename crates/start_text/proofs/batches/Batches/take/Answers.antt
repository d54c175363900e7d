use Rattle.std.proofs.Common.{rules}
use Rattle.start_text.proofs.Batching.{take_parsed, take_kept}
use Rattle.start_text.proofs.batches.Batches.take.Goals as goal

pub returns-then-is_full-clause-taken : goal.returns-then-is_full-clause-taken
returns-then-is_full-clause-taken g c = λ before h.
    take_parsed before c.args.self.now _ c.self.inside.classes c.read_batch.new.classes c.self.inside.batch c.take.new.self c.read_batch.new.batch c.args.number c.args.bytes.items c.read_batch.result
    (search rules) (search rules) (search rules) h c.read_batch.ensures.fault c.read_batch.ensures.classes c.read_batch.ensures.empty

pub returns-clause-taken : goal.returns-clause-taken
returns-clause-taken g c = λ before h.
    take_kept before c.args.self.now _ c.self.inside.classes c.self.inside.batch c.take.new.self c.args.number c.args.bytes.items (search rules) (search rules) (search rules) h
