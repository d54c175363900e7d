use Rattle.std.proofs.Common.{◌≡◌, ◌∙◌, ap, List, ℕ, bytes_eq, if◌then◌else◌, Some}
use Rattle.std.specs.Prelude.{string_bytes}
use Rattle.std.specs.BTreeMap.{get_by_text}
use Rattle.known_classes.proofs.TableLemmas.{same_entries, on_err}
use Rattle.std.proofs.lemmas.Map.Text.{btree_map_updates_text}
use Rattle.known_classes.proofs.tables.put.Goals as goal

pub returns-clause-placed : goal.returns-clause-placed
returns-clause-placed c = λ other.
    let key : string_bytes c.in_ok-key.key ≡ c.args.name.now = c.in_ok-key.ensures.ok in
    btree_map_updates_text (string_bytes c.in_ok-key.key) c.args.numbers.now c.insert.new.self (Some c.args.number) c.in_ok-insert.ensures.updates other
    ∙ ap (λ (b : List ℕ). if bytes_eq b other then Some c.args.number else get_by_text c.args.numbers.now other) key

pub returns-in_err-insert-clause-unchanged : goal.returns-in_err-insert-clause-unchanged
returns-in_err-insert-clause-unchanged c = on_err c.from_residual-in_err-insert.result (same_entries c.args.numbers.now c.insert.new.self c.in_err-insert.ensures.err)
