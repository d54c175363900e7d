use Rattle.std.proofs.Common.{rules, ◌≡◌, ◌∙◌, ◌-◌, arith, length, ℕ, List, None}
use Rattle.std.specs.BTreeMap.{get_by_text}
use Rattle.class_summary.specs.Sources.{canonical_name}
use Rattle.class_summary.proofs.UnitTables.{firsts_none, firsts_on, firsts_end}
use Rattle.class_summary.proofs.unit_names.canonical_in.Goals as goal

pub loop-left-init : goal.loop-left-init
loop-left-init c =
    let none : (name : List ℕ) → get_by_text c.new-by_canonical.result name ≡ None = λ name. search rules in
    firsts_none (length c.args.unit.now.classes) c.len-left.result (canonical_name c.args.unit.now) (get_by_text c.new-by_canonical.result) c.len-left.ensures none

pub loop-left-preserved : goal.loop-left-preserved
loop-left-preserved c =
    let k : ℕ = c.loop-left.left - 1 in
    let text : c.as_str.result.now ≡ canonical_name c.args.unit.now k = c.as_str.ensures ∙ c.in_ok-name.ensures.name in
    firsts_on (length c.args.unit.now.classes) c.loop-left.left k (canonical_name c.args.unit.now) c.as_str.result.now (get_by_text c.loop-left.by_canonical) (get_by_text c.put.new.numbers) (omega arith) text c.in_ok-put.ensures.placed c.loop-left.invariant

pub returns : goal.returns
returns c = firsts_end (length c.args.unit.now.classes) c.loop-left.left (canonical_name c.args.unit.now) (get_by_text c.loop-left.by_canonical) (omega arith) c.loop-left.invariant
