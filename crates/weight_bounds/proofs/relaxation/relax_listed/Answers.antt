use Rattle.std.proofs.Common.{◌≡◌, slice_get, Some, get_or, refl, ◌∙◌, arith}
use Rattle.weight_bounds.proofs.Members.{each-more, each-all, has-none}
use Rattle.weight_bounds.proofs.Steps.{step-none, step-then}
use Rattle.weight_bounds.specs.Numbers.{IsSettled}
use Rattle.weight_bounds.specs.Rules.{Source, sources, source_rule}
use Rattle.weight_bounds.proofs.relaxation.relax_listed.Goals as goal

pub loop-source-init : goal.loop-source-init
loop-source-init c = record { step = step-none _ _ _ _; settled = λ k h s at. absurd (has-none k h); as_many = refl }

pub loop-source-preserved : goal.loop-source-preserved
loop-source-preserved c =
    let g = c.args.setting.now.parts.now in
    let step = c.in_ok-relax_source.ensures.step in
    record {
      step = step-then _ _ _ _ _ _ _ _ c.loop-source.invariant.step step;
      settled = each-more (λ k. (s : Source) → slice_get (sources g) k ≡ Some s → IsSettled g c.args.setting.now.limit.value c.relax_source.new.numbers c.relax_source.new.queue.items (source_rule c.args.left s)) c.args.listed.now c.loop-source.source-index (get_or c.args.listed.now c.loop-source.source-index 0) 0 c.loop-source-test.true refl
          (λ k h s at. step.settled (source_rule c.args.left s) (c.loop-source.invariant.settled k h s at)) c.in_ok-relax_source.ensures.settled;
      as_many = step.as_many ∙ c.loop-source.invariant.as_many;
    }

pub returns-clause-settled : goal.returns-clause-settled
returns-clause-settled c deep =
    let g = c.args.setting.now.parts.now in
    let past = c.loop-source-test.false in
    each-all (λ k. (s : Source) → slice_get (sources g) k ≡ Some s → IsSettled g c.args.setting.now.limit.value c.loop-source.numbers c.loop-source.queue.items (source_rule c.args.left s)) c.args.listed.now c.loop-source.source-index (omega (arith, past)) c.loop-source.invariant.settled
