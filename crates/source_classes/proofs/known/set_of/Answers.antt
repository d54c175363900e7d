use Rattle.std.proofs.Common.{rules, ◌≡◌}
use Rattle.std.specs.Prelude.{string_bytes}
use Rattle.decl_index.proofs.Merges.{among-none, among-more, among-all}
use Rattle.source_classes.proofs.known.set_of.Goals as goal

pub loop-name-init : goal.loop-name-init
loop-name-init c = among-none c.new-set.result (λ n. search rules)

pub loop-name-preserved : goal.loop-name-preserved
loop-name-preserved c =
    let name : string_bytes c.in_ok-from_str.field-0 ≡ c.name-item.result = search rules in
    among-more c.loop-name.set c.insert.new.self (string_bytes c.in_ok-from_str.field-0) c.args.names.now c.loop-name.name-index c.name-item.result c.in_ok-insert.ensures.updates name (search rules) c.name-item.is c.loop-name.invariant

pub returns : goal.returns
returns c = among-all c.loop-name.set c.args.names.now c.loop-name.name-index (search rules) c.loop-name.invariant
