use Rattle.java_resolve.proofs.resolution.found_of.Goals as goal

pub returns-in-Ok-clause-right : goal.returns-in-Ok-clause-right
returns-in-Ok-clause-right c = λ h is. c.in-Ok.ensures.right c.args.text.now c.utf8.text h is
