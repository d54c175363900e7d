use Rattle.std.proofs.Common.{rules, ◌≡◌, ◌∙◌, ap}
use Rattle.std.specs.Prelude.{string_bytes}
use Rattle.std.specs.BTreeMap.{get_by_text}
use Rattle.usage_counts.specs.Additions.{used_of}
use Rattle.usage_counts.proofs.AddedLaws.{placed-new, none-used, was_absent}
use Rattle.usage_counts.proofs.additions.place.Goals as goal

pub returns-in_ok-insert-clause-placed : goal.returns-in_ok-insert-clause-placed
returns-in_ok-insert-clause-placed c =
    let e : string_bytes c.in_ok-from_str.field-0 ≡ c.args.tally.now.key = search rules in
    placed-new c.args.uses.now c.insert.new.self (string_bytes c.in_ok-from_str.field-0) c.args.tally.now e (search rules) c.in_ok-insert.ensures.updates (was_absent (get_by_text c.args.uses.now c.args.tally.now.key) (search rules))

pub returns-in_ok-insert-clause-used : goal.returns-in_ok-insert-clause-used
returns-in_ok-insert-clause-used c =
    let e : string_bytes c.in_ok-from_str.field-0 ≡ c.args.tally.now.key = search rules in
    ap used_of c.in_ok-insert.ensures.entries ∙ none-used c.args.uses.now.entries c.in_ok-from_str.field-0 (ap (get_by_text c.args.uses.now) e ∙ was_absent (get_by_text c.args.uses.now c.args.tally.now.key) (search rules))
