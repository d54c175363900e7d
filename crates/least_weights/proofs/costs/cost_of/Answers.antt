use Rattle.std.proofs.Common.{◌+◌, ◌<◌, length, refl, rules, arith, get_or}
use Rattle.least_weights.specs.Numbers.{number_at}
use Rattle.least_weights.proofs.Members.{total-more, total-prefix}
use Rattle.least_weights.proofs.costs.cost_of.Goals as goal

pub returns-then-more-most : goal.returns-then-more-most
returns-then-more-most c =
    let low : c.loop-tail.tail-index < length c.args.tails.now = search rules in
    let more = total-more (number_at c.args.limit.value c.args.numbers.now) c.args.tails.now c.loop-tail.tail-index (get_or c.args.tails.now c.loop-tail.tail-index 0) 0 low refl in
    let prefix = total-prefix (number_at c.args.limit.value c.args.numbers.now) c.args.tails.now (c.loop-tail.tail-index + 1) in
    let value = c.number_at-more.ensures.value in
    let so_far = c.loop-tail.invariant.so_far in
    record { value = omega (arith, more, prefix, value, so_far, c.if-more-most.true) }

pub loop-tail-preserved : goal.loop-tail-preserved
loop-tail-preserved c =
    let low : c.loop-tail.tail-index < length c.args.tails.now = search rules in
    let more = total-more (number_at c.args.limit.value c.args.numbers.now) c.args.tails.now c.loop-tail.tail-index (get_or c.args.tails.now c.loop-tail.tail-index 0) 0 low refl in
    let value = c.number_at-more.ensures.value in
    let so_far = c.loop-tail.invariant.so_far in
    record {
      within = omega (arith, c.if-more-most.false, c.loop-tail.invariant.within);
      so_far = omega (arith, more, value, so_far);
    }
