use Rattle.std.proofs.Common.{◌≡◌, ◌+◌, ◌-◌, ◌≤◌, length, arith}
use Rattle.checker.proofs.Aparts.{apart-end}
use Rattle.checker.proofs.Tables.{table-empty, table-longer, repeats, still_apart}
use Rattle.checker.proofs.floor_table.map_of.Goals as goal

pub loop-i-init : goal.loop-i-init
loop-i-init c =
    let fs = c.args.floors.now in
    let whole : length fs ≤ length fs = omega arith in
    record { within = whole; apart = apart-end (length fs) fs whole; table = table-empty c.new-map.result (length fs) fs c.new-map.ensures.empty whole }

pub returns-then-not-branch-clause-repeated : goal.returns-then-not-branch-clause-repeated
returns-then-not-branch-clause-repeated c =
    let one : c.loop-i.i ≡ (c.loop-i.i - 1) + 1 = omega arith in
    repeats c.loop-i.i (c.loop-i.i - 1) c.args.floors.now c.index-floors-i.result c.in_ok-add.field-0 one c.loop-i.invariant.within c.index-floors-i.is (c.in_ok-add.ensures.fresh _ c.loop-i.invariant.table) c.if-not-branch.true

pub loop-i-preserved : goal.loop-i-preserved
loop-i-preserved c =
    let i = c.loop-i.i in
    let fs = c.args.floors.now in
    let d = c.index-floors-i.result in
    let one : i ≡ (i - 1) + 1 = omega arith in
    record {
      within = omega arith;
      apart = still_apart i (i - 1) fs d c.in_ok-add.field-0 one c.loop-i.invariant.within c.index-floors-i.is (c.in_ok-add.ensures.fresh _ c.loop-i.invariant.table) c.if-not-branch.false c.loop-i.invariant.apart;
      table = table-longer c.add.new.map i (i - 1) fs d one c.loop-i.invariant.within c.index-floors-i.is (c.in_ok-add.ensures.table _ c.loop-i.invariant.table);
    }
