use Rattle.std.proofs.Common.{rules, ◌≡◌, ◌-◌, arith, length, refl, ℕ, List, None}
use Rattle.std.specs.BTreeMap.{get_by_text}
use Rattle.class_summary.proofs.Bounds.{bounds_none, bounds_on, bounds_end}
use Rattle.class_summary.proofs.variable_names.places_in.Goals as goal

pub loop-left-init : goal.loop-left-init
loop-left-init c =
    let none : (name : List ℕ) → get_by_text c.new-places.result name ≡ None = λ name. search rules in
    bounds_none c.args.vars.now (length c.args.vars.now) (get_by_text c.new-places.result) refl none

pub loop-left-preserved : goal.loop-left-preserved
loop-left-preserved c =
    let k : ℕ = c.loop-left.left - 1 in
    bounds_on c.args.vars.now c.loop-left.left k c.index-vars-left.result c.as_str.result.now (get_by_text c.loop-left.places) (get_by_text c.put.new.numbers) (omega arith) c.index-vars-left.is c.as_str.ensures c.in_ok-put.ensures.placed c.loop-left.invariant

pub returns : goal.returns
returns c = bounds_end c.args.vars.now c.loop-left.left (get_by_text c.loop-left.places) (omega arith) c.loop-left.invariant
