use Rattle.reconstruction.proofs.Unstacking.{front_unread, front_enough, front_more, front_term, front_some, front_shorter, no_items}
use Rattle.reconstruction.proofs.built_terms.term_of.Goals as goal

pub loop-number-init : goal.loop-number-init
loop-number-init c = record { inside = c.requires.front; read = front_unread _ _ c.new-stack.result.items c.new-stack.ensures.items c.requires.ended }

pub apply-requires : goal.apply-requires
apply-requires c = record { enough = front_enough c.args.tables.now c.args.arena.now c.args.front c.loop-number.at c.in-Some.number c.in-Some.rest _ c.loop-number.stack.items c.parts-parts.result.now c.requires.complete c.loop-number.invariant.read c.in-Some.ensures.some c.loop-number.stack.ok.0 c.parts-parts.ensures.value }

pub loop-number-preserved : goal.loop-number-preserved
loop-number-preserved c = record {
  inside = c.in-Some.ensures.within;
  read = front_more c.args.tables.now c.args.arena.now c.args.front c.loop-number.at c.in-Some.number c.in-Some.rest c.loop-number.stack.items c.apply.new.stack.items c.parts-parts.result.now c.requires.complete c.loop-number.invariant.read c.in-Some.ensures.some c.parts-parts.ensures.value c.in_ok-apply.ensures.applied;
}

pub loop-number-smaller : goal.loop-number-smaller
loop-number-smaller c = front_shorter c.args.arena.now c.loop-number.at c.in-Some.number c.in-Some.rest c.in-Some.ensures.some

pub unreachable-requires : goal.unreachable-requires
unreachable-requires c = front_some c.args.tables.now c.args.arena.now c.args.front c.loop-number.at c.loop-number.stack.items c.loop-number.invariant.read c.in_default.ensures.none (no_items c.loop-number.stack.items c.loop-number.stack.len c.loop-number.stack.ok.0 c.in-None.ensures.cases.0)

pub returns : goal.returns
returns c = record { term = front_term c.args.tables.now c.args.arena.now c.args.front c.loop-number.at c.loop-number.stack.items c.pop.new.self.items c.in-Some-pop.term c.loop-number.invariant.read c.in_default.ensures.none c.in-Some-pop.ensures.items }
