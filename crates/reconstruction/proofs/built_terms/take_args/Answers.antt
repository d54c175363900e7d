use Rattle.std.proofs.Common.{arith}
use Rattle.reconstruction.proofs.Stacks.{none_taken, more_taken, all_args, all_rest}
use Rattle.reconstruction.proofs.built_terms.take_args.Goals as goal

pub loop-wish-init : goal.loop-wish-init
loop-wish-init c = (let long = c.args.stack.now.ok.0 in none_taken c.args.wanted.now c.new-args.result c.args.stack.now.items c.new-args.ensures (omega (arith, c.requires.enough, long)))

pub unreachable-requires : goal.unreachable-requires
unreachable-requires c = (let long = c.loop-wish.stack.ok.0 in let enough = c.loop-wish.invariant.enough in omega (arith, c.in-None.ensures.cases.0, long, enough, c.loop-wish-test.true))

pub loop-wish-preserved : goal.loop-wish-preserved
loop-wish-preserved c = more_taken c.args.wanted.now c.loop-wish.wish-index c.loop-wish.args c.push.new.self c.place.result c.wish-item.result c.wish-item.result c.args.stack.now.items c.loop-wish.stack.items c.pop.new.self.items c.in-Some.term
    c.loop-wish.invariant c.loop-wish-test.true c.wish-item.is c.in-Some.ensures.items c.place.ensures.placed c.in_ok-push.ensures.ok

pub returns : goal.returns
returns c = record {
  args = all_args c.args.wanted.now c.loop-wish.wish-index c.loop-wish.args c.args.stack.now.items c.loop-wish.stack.items c.loop-wish.invariant c.loop-wish-test.false;
  rest = all_rest c.args.wanted.now c.loop-wish.wish-index c.loop-wish.args c.args.stack.now.items c.loop-wish.stack.items c.loop-wish.invariant c.loop-wish-test.false;
}
