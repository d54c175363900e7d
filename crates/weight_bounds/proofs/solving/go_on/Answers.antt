use Rattle.std.proofs.Common.{map, ◌∙◌}
use Rattle.weight_bounds.proofs.Listed.{length-mapped}
use Rattle.weight_bounds.proofs.Steps.{step-then}
use Rattle.weight_bounds.proofs.Waking.{woken}
use Rattle.weight_bounds.proofs.solving.go_on.Goals as goal

pub returns-clause-step : goal.returns-clause-step
returns-clause-step c = step-then _ _ _ _ _ _ _ _ c.in_ok-relax_listed.ensures.step c.in_ok-relax_listed-2.ensures.step

pub returns-clause-settled : goal.returns-clause-settled
returns-clause-settled c before popped all r rule =
    woken c.args.setting.now.parts.now c.args.setting.now.limit.value (map (λ v. v.items) c.args.users.now) c.users_at-listed.result.now c.args.key c.args.place c.args.numbers.now c.relax_listed.new.numbers c.relax_listed-2.new.numbers before c.args.queue.now.items c.relax_listed.new.queue.items c.relax_listed-2.new.queue.items
    c.args.setting.now.valid c.requires.users (length-mapped (λ v. v.items) c.args.users.now ∙ c.requires.as_many) c.requires.places c.users_at-listed.ensures.value popped c.in_ok-relax_listed.ensures.step c.in_ok-relax_listed-2.ensures.step c.in_ok-relax_listed.ensures.settled c.in_ok-relax_listed-2.ensures.settled r rule (all r rule)
