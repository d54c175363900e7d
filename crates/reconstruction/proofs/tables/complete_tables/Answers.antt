use Rattle.std.proofs.Common.{subst}
use Rattle.terms.specs.Faults.{IsValid, HasLengths}
use Rattle.terms.specs.declared.parts.Parts.{Parts}
use Rattle.reconstruction.specs.declared.tables.Tables.{Tables}
use Rattle.reconstruction.proofs.Complete.{are-complete}
use Rattle.reconstruction.proofs.tables.complete_tables.Goals as goal

pub returns-clause-complete : goal.returns-clause-complete
returns-clause-complete c =
    let t : Tables = record { env = c.args.env; patterns = c.args.patterns; edges = c.args.edges; least = c.args.least; totals = c.args.weighed.totals; floors = c.args.weighed.floors; usable = c.args.weighed.usable } in
    let valid : IsValid c.args.env = subst (λ (x : Parts). IsValid x) c.parts.ensures.value c.parts.ensures.valid in
    let lengths : HasLengths c.args.env = subst (λ (x : Parts). HasLengths x) c.parts.ensures.value c.parts.ensures.lengths in
    are-complete t c.args.compressed.now valid lengths c.requires.compressed c.requires.patterns c.requires.least c.requires.edges c.requires.totals c.requires.floors c.requires.usable
