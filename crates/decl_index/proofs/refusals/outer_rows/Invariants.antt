use Rattle.decl_index.specs.Refusals.{outers_of}
use Rattle.decl_index.proofs.RowLemmas.{AreRows}
use Rattle.decl_index.proofs.refusals.outer_rows.Given as goal

abbrev pub invariant-loop-place : goal.invariant-loop-place
invariant-loop-place l = AreRows outers_of l.classes l.place l.rows.items
