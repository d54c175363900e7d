use Rattle.std.proofs.Common.{map, ap, subst, ◌∙◌}
use Rattle.terms.specs.Faults.{IsValid}
use Rattle.certificates.specs.Floors.{floor_at}
use Rattle.certificates.specs.Told.{number_of}
use Rattle.certificates.proofs.Listed.{list-holds, list-first}
use Rattle.certificates.proofs.floor_list.floors_by.Goals as goal

pub returns-clause-hold : goal.returns-clause-hold
returns-clause-hold c =
    let valid : IsValid c.args.env.now = subst (λ g. IsValid g) c.parts-parts.ensures.value c.parts-parts.ensures.valid in
    let is = c.in_ok-list.ensures.value ∙ ap (map (floor_at c.args.env.now c.args.tables.now.patterns c.args.tables.now.least)) c.as_slice.ensures.value in
    let t = c.requires.tables in
    (number_of c.args.env.now c.args.tables.now.least 0, list-holds c.args.env.now c.args.tables.now.compressed c.args.tables.now.patterns c.args.tables.now.least c.in_ok-told.told.states c.in_ok-list.list valid t.compressed t.patterns t.sought t.least c.in_ok-told.ensures.all is)

pub returns-clause-first : goal.returns-clause-first
returns-clause-first c =
    let valid : IsValid c.args.env.now = subst (λ g. IsValid g) c.parts-parts.ensures.value c.parts-parts.ensures.valid in
    let is = c.in_ok-list.ensures.value ∙ ap (map (floor_at c.args.env.now c.args.tables.now.patterns c.args.tables.now.least)) c.as_slice.ensures.value in
    let t = c.requires.tables in
    list-first c.args.env.now c.args.tables.now.compressed c.args.tables.now.patterns c.args.tables.now.least c.in_ok-told.told.states c.in_ok-list.list valid t.compressed t.patterns t.sought t.least c.in_ok-told.ensures.all is
