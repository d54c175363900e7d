use Rattle.std.proofs.Common.{rules, refl}
use Rattle.sessions.specs.Spots.{IsSpot}
use Rattle.sessions.proofs.Sited.{site_of_unit}
use Rattle.sessions.proofs.Prefixes.{prefix_starts, prefix_ends}
use Rattle.sessions.proofs.Asked.{no_hole_by}
use Rattle.sessions.proofs.cursors.Cursors.complete.Goals as goal

pub returns-in_default-clause-answers : goal.returns-in_default-clause-answers
returns-in_default-clause-answers g c =
    let spot : IsSpot c.args.document.now c.args.place c.in_ok-unit.field-0.unit c.in_ok-unit.field-0.site = search rules in
    no_hole_by c.args.self.now c.args.id.now c.args.document.now c.args.place c.args.options c.in_ok-unit.field-0.unit c.in_ok-unit.field-0.site c.null_reply.result _ _ spot c.in_default.is refl c.null_reply.ensures.body

pub new_cursor-requires-clause-start : goal.new_cursor-requires-clause-start
new_cursor-requires-clause-start g c =
    let spot : IsSpot c.args.document.now c.args.place c.in_ok-unit.field-0.unit c.in_ok-unit.field-0.site = search rules in
    prefix_starts c.args.document.now c.args.place c.in_ok-unit.field-0.unit c.in_ok-unit.field-0.site c.in-Some.site spot c.in-Some.is c.requires.boundary

pub new_cursor-requires-clause-end : goal.new_cursor-requires-clause-end
new_cursor-requires-clause-end g c =
    let spot : IsSpot c.args.document.now c.args.place c.in_ok-unit.field-0.unit c.in_ok-unit.field-0.site = search rules in
    prefix_ends c.args.document.now c.args.place c.in_ok-unit.field-0.unit c.in_ok-unit.field-0.site c.in-Some.site spot c.in-Some.is c.requires.boundary

pub new_cursor-requires-clause-site : goal.new_cursor-requires-clause-site
new_cursor-requires-clause-site g c =
    let spot : IsSpot c.args.document.now c.args.place c.in_ok-unit.field-0.unit c.in_ok-unit.field-0.site = search rules in
    site_of_unit c.args.document.now c.args.place c.in_ok-unit.field-0.unit c.in_ok-unit.field-0.site c.in-Some.site spot c.in-Some.is
