use Rattle.std.proofs.Common.{length, ap, ◌∙◌, arith}
use Rattle.certificates.proofs.Steps.{all-told}
use Rattle.certificates.proofs.floor_list.told_states.Goals as goal

pub returns : goal.returns
returns c =
    let many = c.in_ok-tell_all.ensures.later.as_many ∙ c.in_ok-told.ensures.as_many ∙ ap length c.states-count.ensures.value in
    record {
      all = all-told c.args.env.now c.args.tables.now.compressed c.args.tables.now.patterns c.args.tables.now.least c.in_ok-told.told.states c.tell_all.new.told.states c.in_ok-told.ensures.one c.in_ok-tell_all.ensures.later.grown c.as_slice-states.ensures.distinct
          (λ j h. (let low = c.as_slice-states.ensures.in_range j h in omega (arith, low, many))) c.in_ok-tell_all.ensures.told;
    }
