use Rattle.class_pool.proofs.UnitLaws.{is_exact}
use Rattle.class_pool.proofs.modified.decode_modified.Goals as goal

pub returns-clause-exact : goal.returns-clause-exact
returns-clause-exact c = is_exact _ _ c.text_in.ensures.found c.text_in.ensures.only
