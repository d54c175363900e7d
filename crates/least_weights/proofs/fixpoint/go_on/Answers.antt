use Rattle.std.proofs.Common.{inl, inr, get_or, ap, subst, sym, ◌∙◌, arith}
use Rattle.least_weights.specs.Users.{Leads}
use Rattle.least_weights.proofs.Steps.{taken}
use Rattle.least_weights.proofs.fixpoint.go_on.Goals as goal

pub returns-clause-settled : goal.returns-clause-settled
returns-clause-settled c before popped all m e at = elim (taken c.args.limit.value c.args.numbers.now.items before c.args.queue.now.items c.args.key c.args.state e popped (all m e at)) [
  | inl still ↦ c.in_ok-relax_chain.ensures.step.settled e still
  | inr t ↦ (
      let within = t.within in
      let as_many = c.requires.as_many in
      let first = c.first_of-first.ensures.value ∙ ap (λ fs. get_or fs c.args.state 0) c.as_slice-2.ensures.value in
      let leads = c.requires.users m c.args.state e at t.tail (omega (arith, within, as_many)) in
      c.in_ok-relax_chain.ensures.settled m e (subst (λ ls. Leads ls c.first_of-first.result m) (sym c.as_slice-3.ensures.value) (subst (λ f. Leads c.args.users.now.links.items f m) (sym first) leads)) at)
]
