use Rattle.std.proofs.Common.{rules, ◌≡◌, None, Some, [], subst, sym}
use Rattle.known_classes.specs.Known.{class_named, IsPlaceOf}
use Rattle.decl_index.specs.Rows.{IsRow}
use Rattle.decl_index.proofs.RowLemmas.{row_none, row_found, row_passed, row_all}
use Rattle.decl_index.proofs.refusals.row.Goals as goal

pub loop-name-init : goal.loop-name-init
loop-name-init c = subst (IsRow c.args.classes.now []) (sym c.new-row.ensures) (row_none c.args.classes.now)

pub loop-name-preserved : goal.loop-name-preserved
loop-name-preserved c =
    let at : IsPlaceOf c.args.classes.now (class_named c.args.classes.now c.name-item.result) (Some c.in-Some.place) = search rules in
    row_found c.args.classes.now c.args.names.now c.loop-name.name-index c.loop-name.row _ c.name-item.result c.in-Some.place (search rules) c.name-item.is c.in_ok-push.ensures.ok c.find.ensures.rises at c.loop-name.invariant

pub loop-name-preserved-in_default : goal.loop-name-preserved-in_default
loop-name-preserved-in_default c =
    let none : class_named c.args.classes.now c.name-item.result ≡ None = search rules in
    row_passed c.args.classes.now c.args.names.now c.loop-name.name-index c.loop-name.row c.name-item.result (search rules) c.name-item.is c.find.ensures.rises none c.loop-name.invariant

pub returns : goal.returns
returns c = row_all c.args.classes.now c.args.names.now c.loop-name.name-index c.loop-name.row (search rules) c.loop-name.invariant
