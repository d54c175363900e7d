use Rattle.std.proofs.Common.{rules, ◌≡◌, subst}
use Rattle.decl_index.specs.Refusals.{outers_of}
use Rattle.decl_index.specs.Rows.{IsRow}
use Rattle.decl_index.proofs.RowLemmas.{rows-next, rows-all}
use Rattle.decl_index.proofs.refusals.outer_rows.Goals as goal

pub loop-place-preserved : goal.loop-place-preserved
loop-place-preserved c =
    let names : c.outer_names.result.now ≡ outers_of c.at-class.result.now = search rules in
    let is : IsRow c.args.classes.now (outers_of c.at-class.result.now) c.in_ok-row.field-0 = subst (λ ns. IsRow c.args.classes.now ns c.in_ok-row.field-0) names c.in_ok-row.ensures in
    rows-next outers_of c.args.classes.now c.loop-place.place c.loop-place.rows.items c.push.new.self.items c.in_ok-row.field-0 c.at-class.result.now c.at-class.ensures (search rules) is c.loop-place.invariant

pub returns : goal.returns
returns c = rows-all outers_of c.args.classes.now c.loop-place.place c.loop-place.rows.items (search rules) c.loop-place.invariant
