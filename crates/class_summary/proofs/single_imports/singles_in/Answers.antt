use Rattle.std.proofs.Common.{rules, ◌≡◌, ◌∙◌, ◌-◌, ap, sym, arith, length, refl, ℕ, List, Some, None}
use Rattle.std.specs.Option.{option_copied}
use Rattle.std.specs.BTreeMap.{get_by_text}
use Rattle.class_summary.specs.ImportTables.{single_name}
use Rattle.class_summary.proofs.Imports.{singles_none, singles_skip, singles_put, singles_end}
use Rattle.class_summary.proofs.single_imports.singles_in.Goals as goal

pub loop-left-init : goal.loop-left-init
loop-left-init c =
    let none : (name : List ℕ) → get_by_text c.new-places.result name ≡ None = λ name. search rules in
    singles_none c.args.imports.now (length c.args.imports.now) (get_by_text c.new-places.result) refl none

pub loop-left-preserved-in_default : goal.loop-left-preserved-in_default
loop-left-preserved-in_default c =
    let k : ℕ = c.loop-left.left - 1 in
    let none : single_name c.index-imports-left.result ≡ None = sym c.single_name.ensures ∙ ap option_copied c.in_default.is in
    singles_skip c.args.imports.now c.loop-left.left k c.index-imports-left.result (get_by_text c.loop-left.places) (omega arith) c.index-imports-left.is none c.loop-left.invariant

pub loop-left-preserved : goal.loop-left-preserved
loop-left-preserved c =
    let k : ℕ = c.loop-left.left - 1 in
    let some : single_name c.index-imports-left.result ≡ Some c.in-Some.last.now = sym c.single_name.ensures ∙ ap option_copied c.in-Some.is in
    singles_put c.args.imports.now c.loop-left.left k c.index-imports-left.result c.in-Some.last.now c.as_str.result.now (get_by_text c.loop-left.places) (get_by_text c.put.new.numbers) (omega arith) c.index-imports-left.is some c.as_str.ensures c.in_ok-put.ensures.placed c.loop-left.invariant

pub returns : goal.returns
returns c = singles_end c.args.imports.now c.loop-left.left (get_by_text c.loop-left.places) (omega arith) c.loop-left.invariant
