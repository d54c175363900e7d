use Rattle.std.proofs.Common.{map, subst}
use Rattle.terms.specs.Faults.{IsValid}
use Rattle.certificates.proofs.Steps.{lowers-told}
use Rattle.certificates.proofs.tables.Tables.tell_lowers.Goals as goal

pub returns-clause-told : goal.returns-clause-told
returns-clause-told c =
    let valid : IsValid c.args.env.now = subst (λ g. IsValid g) c.parts-parts.ensures.value c.parts-parts.ensures.valid in
    lowers-told c.args.env.now c.args.self.now.compressed c.args.self.now.patterns c.args.self.now.least c.args.state c.args.most (map (λ l. l.items) c.args.self.now.by_result.items) c.args.goal c.loop-source.source-index c.list_at-source-items.result.now c.loop-source.told.states
    valid c.requires.tables.by_result c.list_at-source-items.ensures.value c.loop-source-test.false c.loop-source.invariant.told
