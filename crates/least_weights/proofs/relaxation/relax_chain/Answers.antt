use Rattle.std.proofs.Common.{◌≡◌, ◌-◌, inl, inr, suc, get_or, slice_get, Some, sym, ap, ◌∙◌, arith}
use Rattle.std.proofs.lemmas.Option.{slice_get-get_or}
use Rattle.least_weights.specs.declared.users.Link.{Link}
use Rattle.least_weights.proofs.Chains.{split-chain, end-chain}
use Rattle.least_weights.proofs.Steps.{step-then}
use Rattle.least_weights.proofs.relaxation.relax_chain.Goals as goal

pub loop-at-preserved : goal.loop-at-preserved
loop-at-preserved c =
    let more = c.loop-at-test.true in
    let inside = c.loop-at.invariant.within in
    let none : Link = record { edge = 0; next = 0 } in
    let one : Link = get_or c.args.links.now (c.loop-at.at - 1) none in
    let is : slice_get c.args.links.now (c.loop-at.at - 1) ≡ Some one = slice_get-get_or c.args.links.now (c.loop-at.at - 1) none (omega (arith, more, inside)) in
    let falls = c.requires.falling (c.loop-at.at - 1) one is in
    let at : c.loop-at.at ≡ suc (c.loop-at.at - 1) = omega (arith, more) in
    record {
      within = omega (arith, falls, inside);
      step = step-then _ _ _ _ _ _ _ _ c.loop-at.invariant.step c.in_ok-relax_numbered.ensures.step;
      left = λ m e lead stands. elim (c.loop-at.invariant.left m e lead stands) [
        | inl settled ↦ inl (c.in_ok-relax_numbered.ensures.step.settled e settled)
        | inr leads ↦ (elim (split-chain c.args.links.now c.loop-at.at m leads (c.loop-at.at - 1) one at is) [
          | inl same ↦ inl (c.in_ok-relax_numbered.ensures.settled e (ap (slice_get c.args.edges.now) (sym same) ∙ stands))
          | inr rest ↦ inr rest
        ])
      ];
      as_many = c.relax_numbered.ensures.as_many ∙ c.loop-at.invariant.as_many;
    }

pub returns-clause-settled : goal.returns-clause-settled
returns-clause-settled c m e lead stands = elim (c.loop-at.invariant.left m e lead stands) [
  | inl settled ↦ settled
  | inr leads ↦ (let past = c.loop-at-test.false in absurd (end-chain c.args.links.now c.loop-at.at m leads (omega (arith, past))))
]
