use Rattle.plain_listing.proofs.Ranges.{ranges}
use Rattle.plain_listing.proofs.tables.Tables.limit.Goals as goal

pub returns-clause-small : goal.returns-clause-small
returns-clause-small c = (ranges c.parts.result.now c.parts.ensures.valid).limit
