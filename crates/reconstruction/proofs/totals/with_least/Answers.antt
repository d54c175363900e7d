use Rattle.std.proofs.Common.{◌≡◌, ◌+◌, refl, arith, ap, sym, get_or}
use Rattle.least_weights.proofs.Members.{total-more, total-prefix}
use Rattle.reconstruction.specs.Totals.{number_of}
use Rattle.reconstruction.specs.NumberedPlaces.{number}
use Rattle.reconstruction.proofs.totals.with_least.Goals as goal

pub returns-in-None : goal.returns-in-None
returns-in-None c =
    let f = number_of c.args.limit c.args.least.now in
    let i = c.loop-state.state-index in
    let more = total-more f c.args.states.now i (get_or c.args.states.now i 0) 0 c.loop-state-test.true refl in
    let front = total-prefix f c.args.states.now (i + 1) in
    let here : f (get_or c.args.states.now i 0) ≡ c.args.limit + 1 = ap (number c.args.limit) (sym c.in-None.ensures.value) in
    let so_far = c.loop-state.invariant.so_far in
    record { value = omega (arith, more, front, here, so_far) }

pub returns-then-more-limit : goal.returns-then-more-limit
returns-then-more-limit c =
    let f = number_of c.args.limit c.args.least.now in
    let i = c.loop-state.state-index in
    let more = total-more f c.args.states.now i (get_or c.args.states.now i 0) 0 c.loop-state-test.true refl in
    let front = total-prefix f c.args.states.now (i + 1) in
    let here : f (get_or c.args.states.now i 0) ≡ c.in-Some.more = ap (number c.args.limit) (sym c.in-Some.ensures.value) in
    let so_far = c.loop-state.invariant.so_far in
    record { value = omega (arith, more, front, here, so_far, c.if-more-limit.true) }

pub loop-state-preserved : goal.loop-state-preserved
loop-state-preserved c =
    let f = number_of c.args.limit c.args.least.now in
    let i = c.loop-state.state-index in
    let more = total-more f c.args.states.now i (get_or c.args.states.now i 0) 0 c.loop-state-test.true refl in
    let here : f (get_or c.args.states.now i 0) ≡ c.in-Some.more = ap (number c.args.limit) (sym c.in-Some.ensures.value) in
    let so_far = c.loop-state.invariant.so_far in
    record {
      within = omega (arith, c.if-more-limit.false, c.loop-state.invariant.within);
      so_far = omega (arith, more, here, so_far);
    }
