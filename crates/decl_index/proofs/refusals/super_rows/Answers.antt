use Rattle.std.proofs.Common.{rules}
use Rattle.decl_index.specs.Refusals.{supers_of}
use Rattle.decl_index.specs.Rows.{IsRow}
use Rattle.decl_index.proofs.RowLemmas.{rows-next, rows-all}
use Rattle.decl_index.proofs.refusals.super_rows.Goals as goal

pub loop-place-preserved : goal.loop-place-preserved
loop-place-preserved c =
    let is : IsRow c.args.classes.now (supers_of c.at-class.result.now) c.in_ok-row.field-0 = search rules in
    rows-next supers_of c.args.classes.now c.loop-place.place c.loop-place.rows.items c.push.new.self.items c.in_ok-row.field-0 c.at-class.result.now c.at-class.ensures (search rules) is c.loop-place.invariant

pub returns : goal.returns
returns c = rows-all supers_of c.args.classes.now c.loop-place.place c.loop-place.rows.items (search rules) c.loop-place.invariant
