use Rattle.std.proofs.Common.{rules, ◌≡◌, ◌∙◌, ◌-◌, arith, length, ℕ, List, None, sym, refl, true, false}
use Rattle.std.specs.Prelude.{is_some}
use Rattle.std.specs.BTreeMap.{get_by_text}
use Rattle.class_summary.proofs.UnitTables.{top_none, top_skip, top_put, top_end}
use Rattle.class_summary.proofs.unit_names.top_in.Goals as goal

pub loop-left-init : goal.loop-left-init
loop-left-init c =
    let none : (name : List ℕ) → get_by_text c.new-top.result name ≡ None = λ name. search rules in
    top_none c.args.classes.now (length c.args.classes.now) (get_by_text c.new-top.result) refl none

pub loop-left-preserved-then-is_some : goal.loop-left-preserved-then-is_some
loop-left-preserved-then-is_some c =
    let k : ℕ = c.loop-left.left - 1 in
    let some : is_some c.index-classes-left.result.outer ≡ true = sym c.is_some.ensures ∙ c.if-is_some.true in
    top_skip c.args.classes.now c.loop-left.left k c.index-classes-left.result (get_by_text c.loop-left.top) (omega arith) c.index-classes-left.is some c.loop-left.invariant

pub loop-left-preserved : goal.loop-left-preserved
loop-left-preserved c =
    let k : ℕ = c.loop-left.left - 1 in
    let none : is_some c.index-classes-left.result.outer ≡ false = sym c.is_some.ensures ∙ c.if-is_some.false in
    top_put c.args.classes.now c.loop-left.left k c.index-classes-left.result c.as_str.result.now (get_by_text c.loop-left.top) (get_by_text c.put.new.numbers) (omega arith) c.index-classes-left.is none c.as_str.ensures c.in_ok-put.ensures.placed c.loop-left.invariant

pub returns : goal.returns
returns c = top_end c.args.classes.now c.loop-left.left (get_by_text c.loop-left.top) (omega arith) c.loop-left.invariant
