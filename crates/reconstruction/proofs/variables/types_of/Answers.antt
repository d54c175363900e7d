use Rattle.std.proofs.Common.{◌∙◌, ap}
use Rattle.reconstruction.specs.NumberedPlaces.{row_of_args}
use Rattle.reconstruction.proofs.Bound.{row_none, row_some, row_past}
use Rattle.reconstruction.proofs.variables.types_of.Goals as goal

pub returns-then-number-eq0 : goal.returns-then-number-eq0
returns-then-number-eq0 c = record { value = row_none c.args.tables.now.env c.args.number c.if-number-eq0.true }

pub returns-in-Some : goal.returns-in-Some
returns-in-Some c = record { value = c.only_row.ensures.value ∙ ap row_of_args c.as_slice.ensures ∙ row_some c.args.tables.now.env c.args.number c.as_slice-decls.result.now c.in-Some.decl.now c.if-number-eq0.false (c.as_slice-decls.ensures ∙ ap (λ g. g.decls) c.parts.ensures.value) c.in-Some.ensures.lookup.3.0 c.in-Some.ensures.lookup.1 }

pub returns-in-None : goal.returns-in-None
returns-in-None c = record { value = row_past c.args.tables.now.env c.args.number c.as_slice-decls.result.now c.if-number-eq0.false (c.as_slice-decls.ensures ∙ ap (λ g. g.decls) c.parts.ensures.value) c.in-None.ensures.lookup.3 }
