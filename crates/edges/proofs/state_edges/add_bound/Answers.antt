use Rattle.std.proofs.Common.{◌≡◌, true, false, [], ◌∷◌, ◌++◌, get_or, slice_get, Some, None, OnOk, sym, ap, subst, ◌∙◌, append-nil}
use Rattle.std.proofs.lemmas.Option.{slice_get-get_or}
use Rattle.patterns.specs.States.{types_at}
use Rattle.patterns.specs.declared.state.State.{State}
use Rattle.succinct.specs.Sets.{has}
use Rattle.terms.specs.Weights.{variable_weight}
use Rattle.edges.specs.Made.{bound_edge}
use Rattle.edges.proofs.Sound.{bound-one, bound-none}
use Rattle.edges.proofs.state_edges.add_bound.Goals as goal

pub returns-then-not-has : goal.returns-then-not-has
returns-then-not-has c =
    let s : State = get_or c.states.result.now c.args.state (record { set = 0; goal = 0 }) in
    let is : slice_get c.args.patterns.now.states c.args.state ≡ Some s = slice_get-get_or c.args.patterns.now.states c.args.state (record { set = 0; goal = 0 }) c.requires.in_range ∙ ap (λ l. Some (get_or l c.args.state (record { set = 0; goal = 0 }))) (sym c.states.ensures.value) in
    let free : has s.goal (types_at c.args.patterns.now.space s.set) ≡ false = ap (has s.goal) (sym c.types_of.ensures.value) ∙ sym c.has.ensures.value ∙ c.if-not-has.true in
    record { added = sym (ap (λ l. c.args.table.now ++ l) (bound-none c.args.env.now c.args.patterns.now c.args.state s is free) ∙ append-nil c.args.table.now) }

pub returns : goal.returns
returns c =
    let s : State = get_or c.states.result.now c.args.state (record { set = 0; goal = 0 }) in
    let is : slice_get c.args.patterns.now.states c.args.state ≡ Some s = slice_get-get_or c.args.patterns.now.states c.args.state (record { set = 0; goal = 0 }) c.requires.in_range ∙ ap (λ l. Some (get_or l c.args.state (record { set = 0; goal = 0 }))) (sym c.states.ensures.value) in
    let bound : has s.goal (types_at c.args.patterns.now.space s.set) ≡ true = ap (has s.goal) (sym c.types_of.ensures.value) ∙ sym c.has.ensures.value ∙ c.if-not-has.false in
    let weight : c.variable_weight.result ≡ variable_weight c.args.env.now = c.variable_weight.ensures.value in
    let pushed : OnOk c.push.result (c.push.new.self ≡ c.args.table.now ++ bound_edge c.args.env.now c.args.state ∷ []) = subst (λ w. OnOk c.push.result (c.push.new.self ≡ c.args.table.now ++ record { state = c.args.state; source = None; weight = w; tails = [] } ∷ [])) weight c.push.ensures.added in
    record { added = subst (λ l. OnOk c.push.result (c.push.new.self ≡ c.args.table.now ++ l)) (sym (bound-one c.args.env.now c.args.patterns.now c.args.state s is bound)) pushed }
