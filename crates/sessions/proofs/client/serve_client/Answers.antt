use Rattle.sessions.proofs.Statuses.{served_later}
use Rattle.sessions.proofs.client.serve_client.Goals as goal

pub returns-clause-holds : goal.returns-clause-holds
returns-clause-holds g c = c.serve-ending.ensures.serves.met.holds

pub returns-clause-load_later : goal.returns-clause-load_later
returns-clause-load_later g c = served_later _ _ _ _ _ _ _ _ c.serve-ending.ensures.serves
