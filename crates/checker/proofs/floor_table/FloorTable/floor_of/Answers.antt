use Rattle.std.proofs.Common.{◌≡◌, ◌∙◌, ap, List}
use Rattle.std.specs.Prelude.{unwrap_or}
use Rattle.std.specs.HashMap.{get}
use Rattle.checker.specs.declared.floor.Floor.{Floor}
use Rattle.checker.specs.declared.state.State.{State}
use Rattle.checker.specs.Floors.{floor_of}
use Rattle.checker.specs.States.{same_state}
use Rattle.checker.proofs.Tables.{listed-floor}
use Rattle.checker.proofs.floor_table.FloorTable.floor_of.Goals as goal

pub returns : goal.returns
returns c =
    let q : State = record { set = c.args.set.now; left = c.args.left; goal = c.args.goal } in
    let by_list : List Floor → Type 0 = λ fs. c.unwrap_or.result ≡ floor_of fs c.args.set.now c.args.left c.args.goal in
    let listed = c.self.inside.listed.now in
    record {
      value = c.unwrap_or.ensures
          ∙ ap (λ o. unwrap_or o 0) (c.copied.ensures ∙ c.get.ensures.value ∙ ap (get same_state c.self.inside.by_state) c.in_ok-state.ensures.value ∙ c.self.invariant q)
          ∙ listed-floor listed q
          ∙ ap (λ fs. floor_of fs c.args.set.now c.args.left c.args.goal) c.self.view_is;
    }
