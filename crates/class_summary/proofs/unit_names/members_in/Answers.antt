use Rattle.std.proofs.Common.{◌-◌, arith, length, map, ℕ, refl}
use Rattle.std.specs.BTreeMap.{get_by_text}
use Rattle.class_summary.proofs.UnitTables.{members_none, members_skip, members_put, members_end}
use Rattle.class_summary.proofs.unit_names.members_in.Goals as goal

pub loop-left-init : goal.loop-left-init
loop-left-init c = members_none c.args.classes.now (length c.args.classes.now) (map get_by_text c.in_ok-members.members.items) refl c.in_ok-members.ensures

pub loop-left-preserved-in_default : goal.loop-left-preserved-in_default
loop-left-preserved-in_default c =
    let k : ℕ = c.loop-left.left - 1 in
    members_skip c.args.classes.now c.loop-left.left k c.index-classes-left.result (map get_by_text c.loop-left.members.items) (omega arith) c.index-classes-left.is c.in_default.is c.loop-left.invariant

pub loop-left-preserved : goal.loop-left-preserved
loop-left-preserved c =
    let k : ℕ = c.loop-left.left - 1 in
    members_put c.args.classes.now c.loop-left.left k c.index-classes-left.result c.in-Some.outer c.as_str.result.now (map get_by_text c.loop-left.members.items) (map get_by_text c.put_at.new.tables.items) (omega arith) c.index-classes-left.is c.in-Some.is c.as_str.ensures c.in_ok-put_at.ensures.placed c.loop-left.invariant

pub returns : goal.returns
returns c = members_end c.args.classes.now c.loop-left.left (map get_by_text c.loop-left.members.items) (omega arith) c.loop-left.invariant
