use Rattle.std.proofs.Common.{rules, refl, ◌≡◌}
use Rattle.std.specs.Prelude.{string_bytes}
use Rattle.std.specs.BTreeMap.{get_by_text}
use Rattle.decl_index.proofs.CountLemmas.{set-none, set-next}
use Rattle.decl_index.proofs.counts.set_all.Goals as goal

pub loop-count-init : goal.loop-count-init
loop-count-init c = λ key. set-none c.args.counts.now key

pub loop-count-preserved : goal.loop-count-preserved
loop-count-preserved c =
    let name : string_bytes c.in_ok-from_str.field-0 ≡ c.count-item.result.0 = search rules in
    set-next c.loop-count.counts c.insert.new.self (string_bytes c.in_ok-from_str.field-0) c.count-item.result.1 c.count-item.result c.args.more.now c.loop-count.count-index (get_by_text c.args.counts.now) c.in_ok-insert.ensures.updates name refl (search rules) c.count-item.is c.loop-count.invariant
