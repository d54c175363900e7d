use Rattle.std.proofs.Common.{◌≡◌, ◌∙◌, ap, refl, ℕ, List}
use Rattle.checker.specs.declared.state.State.{State}
use Rattle.checker.proofs.Tables.{state_of, table-added, table-fresh}
use Rattle.checker.proofs.floor_table.add.Goals as goal

pub returns-clause-table : goal.returns-clause-table
returns-clause-table c fs table =
    let set : List ℕ → State = λ x. record { set = x; left = c.args.floor.now.left; goal = c.args.floor.now.goal } in
    let is : c.in_ok-state.state ≡ state_of c.args.floor.now = c.in_ok-state.ensures.value ∙ ap set c.as_slice.ensures in
    table-added c.args.map.now c.insert.new.self c.args.floor.now c.in_ok-state.state c.args.floor.now.floor fs c.in_ok-before.ensures.updates is refl table

pub returns-clause-fresh : goal.returns-clause-fresh
returns-clause-fresh c fs table =
    let set : List ℕ → State = λ x. record { set = x; left = c.args.floor.now.left; goal = c.args.floor.now.goal } in
    let is : c.in_ok-state.state ≡ state_of c.args.floor.now = c.in_ok-state.ensures.value ∙ ap set c.as_slice.ensures in
    table-fresh c.args.map.now c.args.floor.now c.in_ok-state.state c.in_ok-before.before c.is_none.result fs c.in_ok-before.ensures.old is c.is_none.ensures table
