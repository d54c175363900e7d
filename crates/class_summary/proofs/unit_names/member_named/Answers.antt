use Rattle.std.proofs.Common.{◌≡◌, true, false, get_or, rules}
use Rattle.class_summary.specs.Names.{is_member}
use Rattle.class_summary.proofs.Searches.{member_hit, member_on, member_end}
use Rattle.class_summary.proofs.unit_names.member_named.Goals as goal

pub returns-then-is_member : goal.returns-then-is_member
returns-then-is_member c =
    let e : is_member c.args.outer c.args.name.now (get_or c.args.classes.now c.loop-i.i c.index-classes-i.result) ≡ true = cc (c.is_member.ensures, c.if-is_member.true, c.index-classes-i.is) in
    member_hit c.args.outer c.args.name.now c.args.classes.now c.loop-i.i c.index-classes-i.result (search rules) e c.loop-i.invariant

pub loop-i-preserved : goal.loop-i-preserved
loop-i-preserved c =
    let e : is_member c.args.outer c.args.name.now (get_or c.args.classes.now c.loop-i.i c.index-classes-i.result) ≡ false = cc (c.is_member.ensures, c.if-is_member.false, c.index-classes-i.is) in
    member_on c.args.outer c.args.name.now c.args.classes.now c.loop-i.i c.index-classes-i.result (search rules) e c.loop-i.invariant

pub returns : goal.returns
returns c = member_end c.args.outer c.args.name.now c.args.classes.now c.loop-i.i (search rules) c.loop-i.invariant
